use Rattle.bridge_laws.proofs.InOrder.{unmoved_is_whole}
use Rattle.bridge_laws.proofs.order.unmoved_is_whole.Goals as goal

pub returns : goal.returns
returns c = unmoved_is_whole
