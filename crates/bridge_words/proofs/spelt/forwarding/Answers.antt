use Rattle.bridge_words.proofs.Spellings as spelling
use Rattle.bridge_words.proofs.spelt.forwarding.Goals as goal

pub returns : goal.returns
returns c = record {
  forward = spelling.spells_forward;
  out_token = spelling.spells_out_token;
  out_channel = spelling.spells_out_channel;
  polls = spelling.spells_polls;
}
