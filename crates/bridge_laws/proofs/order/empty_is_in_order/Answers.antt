use Rattle.bridge_laws.proofs.InOrder.{empty_is_in_order}
use Rattle.bridge_laws.proofs.order.empty_is_in_order.Goals as goal

pub returns : goal.returns
returns c = empty_is_in_order
