-- serve_laws/proofs/laws/nothing_else_is_added/Answers.antt
use Rattle.serve_laws.proofs.Runs.{nothing_else_is_added}
use Rattle.serve_laws.proofs.laws.nothing_else_is_added.Goals as goal

pub returns : goal.returns
returns g c = nothing_else_is_added _ _ _ _
