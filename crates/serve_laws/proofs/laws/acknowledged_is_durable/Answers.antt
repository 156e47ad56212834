-- serve_laws/proofs/laws/acknowledged_is_durable/Answers.antt
use Rattle.serve_laws.proofs.Runs.{acknowledged_is_durable}
use Rattle.serve_laws.proofs.laws.acknowledged_is_durable.Goals as goal

pub returns : goal.returns
returns g c = acknowledged_is_durable _ _ _ _
