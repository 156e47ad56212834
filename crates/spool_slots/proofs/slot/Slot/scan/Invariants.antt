use Rattle.std.proofs.Common.{◌-◌, ◌<◌, ◌≤◌}
use Rattle.edge_disk.specs.Calls.{Calls}
use Rattle.edge_disk.specs.Disk.{IsUntouched}
use Rattle.spool_slots.specs.Scan.{IsScanned}
use Rattle.spool_slots.specs.Window.{IsWindow}
use Rattle.spool_slots.proofs.slot.Slot.scan.Given as goal

abbrev pub invariant-groups : goal.invariant-groups
invariant-groups g l =
    let moment = g.D.Disk.moment in
    record {
      calls : Calls ⊥ (moment l.fn.disk) (moment l.disk);
      told : g.D.Disk.tells → IsUntouched (moment l.fn.disk) (moment l.disk);
      window : g.D.Disk.tells → IsWindow l.at l.window (moment l.disk).reads;
      inside : l.gate < l.size;
      few : l.count ≤ l.gate;
      scanned : g.D.Disk.tells → IsScanned l.at l.size l.head.ordinal l.head.first l.gate l.count (moment l.fn.disk).reads;
    }

abbrev pub decreases-groups : goal.decreases-groups
decreases-groups g l = l.size - l.gate
