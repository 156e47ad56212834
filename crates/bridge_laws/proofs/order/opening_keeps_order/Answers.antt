use Rattle.bridge_laws.proofs.InOrder.{opening_keeps_order}
use Rattle.bridge_laws.proofs.order.opening_keeps_order.Goals as goal

pub returns : goal.returns
returns c = opening_keeps_order
