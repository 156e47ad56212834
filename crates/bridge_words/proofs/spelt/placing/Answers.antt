use Rattle.bridge_words.proofs.Spellings as spelling
use Rattle.bridge_words.proofs.spelt.placing.Goals as goal

pub returns : goal.returns
returns c = record { lumberjack = spelling.spells_lumberjack; hec = spelling.spells_hec; status = spelling.spells_status }
