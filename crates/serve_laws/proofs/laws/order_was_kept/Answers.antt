-- serve_laws/proofs/laws/order_was_kept/Answers.antt
use Rattle.serve_laws.proofs.Runs.{order_was_kept}
use Rattle.serve_laws.proofs.laws.order_was_kept.Goals as goal

pub returns : goal.returns
returns g c = order_was_kept _ _ _ _
