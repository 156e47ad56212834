use Rattle.bridge_words.proofs.Once.{move_is_no_command, one_target, one_tag}
use Rattle.bridge_words.proofs.law.one_move.Goals as goal

pub returns : goal.returns
returns c = record { no_command = move_is_no_command; target = one_target; tag = one_tag }
