-- serve_laws/proofs/laws/doors_tell_durable/Answers.antt
use Rattle.serve_laws.proofs.Runs.{doors_tell_durable}
use Rattle.serve_laws.proofs.laws.doors_tell_durable.Goals as goal

pub returns : goal.returns
returns g c = doors_tell_durable _ _ _ _
