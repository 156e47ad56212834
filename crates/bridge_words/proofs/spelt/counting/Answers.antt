use Rattle.bridge_words.proofs.Spellings as spelling
use Rattle.bridge_words.proofs.spelt.counting.Goals as goal

pub returns : goal.returns
returns c = record {
  workers = spelling.spells_workers;
  connections = spelling.spells_connections;
  talks = spelling.spells_talks;
  apart = spelling.counts_apart;
}
