-- serve_laws/proofs/ending/last_look_is_last/Answers.antt
use Rattle.serve_laws.proofs.Last.{last_look_is_last}
use Rattle.serve_laws.proofs.ending.last_look_is_last.Goals as goal

pub returns : goal.returns
returns g c = last_look_is_last _ _ _ _
