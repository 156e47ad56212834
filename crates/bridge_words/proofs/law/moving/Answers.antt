use Rattle.bridge_words.proofs.Spelled as spelled
use Rattle.bridge_words.proofs.law.moving.Goals as goal

pub returns : goal.returns
returns c = record { moves = spelled.moves; no_tag = spelled.no_tag; both = spelled.moves_both }
