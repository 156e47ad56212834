-- serve_laws/proofs/laws/workers_have_parts/Answers.antt
use Rattle.serve_laws.proofs.Runs.{workers_have_parts}
use Rattle.serve_laws.proofs.laws.workers_have_parts.Goals as goal

pub returns : goal.returns
returns g c = workers_have_parts _ _ _ _
