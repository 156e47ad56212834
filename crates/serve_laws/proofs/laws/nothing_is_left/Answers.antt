-- serve_laws/proofs/laws/nothing_is_left/Answers.antt
use Rattle.serve_laws.proofs.Runs.{nothing_is_left}
use Rattle.serve_laws.proofs.laws.nothing_is_left.Goals as goal

pub returns : goal.returns
returns g c = nothing_is_left _ _ _ _
