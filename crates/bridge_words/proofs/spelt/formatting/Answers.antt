use Rattle.bridge_words.proofs.Spellings as spelling
use Rattle.bridge_words.proofs.spelt.formatting.Goals as goal

pub returns : goal.returns
returns c = spelling.spells_format
