use Rattle.bridge_laws.proofs.Lifetime.{order_holds}
use Rattle.bridge_laws.proofs.order.order_holds_from_format.Goals as goal

pub returns : goal.returns
returns g c = order_holds c.runs_of_one.ensures _ _ g.met.D.Disk.lawful g.met.E.Disk.lawful
