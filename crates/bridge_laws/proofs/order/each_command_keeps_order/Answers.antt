use Rattle.std.proofs.Common.{sym, subst}
use Rattle.edge_disk.specs.Disk.{LeavesOnly}
use Rattle.edge_disk.proofs.Moments.{started}
use Rattle.bridge_laws.proofs.OrderOfCommands.{each_command_keeps_order}
use Rattle.bridge_laws.proofs.order.each_command_keeps_order.Goals as goal

pub returns : goal.returns
returns g c = λ disk disk' input input' output output' net net' doors.
    let moment = g.D.Disk.moment in
    let lawful = g.met.D.Disk.lawful disk in
    each_command_keeps_order c.runs_of_one.ensures _ lawful (λ told same.
    subst (λ d. LeavesOnly (moment disk).image (moment disk) (moment d)) (sym same)
    (started (moment disk).image (moment disk) (lawful told) (λ image is. is)))
