use Rattle.spool_answers.proofs.Adding.{adding_follow}
use Rattle.desk_laws.proofs.Known.{known_follow}
use Rattle.desk_laws.proofs.laws.stages_follow.Goals as goal

pub returns : goal.returns
returns c = record { adding = adding_follow; knowing = known_follow }
