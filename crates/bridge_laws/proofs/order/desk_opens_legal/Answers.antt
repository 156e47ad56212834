use Rattle.bridge_laws.proofs.OrderOfCommands.{desk_opens_legal}
use Rattle.bridge_laws.proofs.order.desk_opens_legal.Goals as goal

pub returns : goal.returns
returns g c = desk_opens_legal g.D.Disk.tells (g.D.Disk.moment c.args._disk.now) (g.met.D.Disk.lawful c.args._disk.now)
