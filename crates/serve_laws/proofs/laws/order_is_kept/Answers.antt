-- serve_laws/proofs/laws/order_is_kept/Answers.antt
use Rattle.serve_laws.proofs.Runs.{order_is_kept}
use Rattle.serve_laws.proofs.laws.order_is_kept.Goals as goal

pub returns : goal.returns
returns g c = order_is_kept _ _ _ _
