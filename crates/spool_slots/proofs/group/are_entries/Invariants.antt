use Rattle.std.proofs.Common.{◌+◌, ◌-◌, ◌*◌, ◌≤◌}
use Rattle.foundation.specs.Bytes.{part}
use Rattle.edge_disk.specs.Calls.{Calls}
use Rattle.edge_disk.specs.Disk.{IsUntouched}
use Rattle.spool_slots.specs.Groups.{BeginsEntries}
use Rattle.spool_slots.specs.Window.{IsWindow}
use Rattle.spool_slots.proofs.group.are_entries.Given as goal

abbrev pub invariant-loop-i : goal.invariant-loop-i
invariant-loop-i g l =
    let moment = g.D.Disk.moment in
    record {
      calls : Calls ⊥ (moment l.fn.disk) (moment l.disk);
      told : g.D.Disk.tells → IsUntouched (moment l.fn.disk) (moment l.disk);
      window : g.D.Disk.tells → IsWindow l.at l.window (moment l.disk).reads;
      begins : l.from + 29 * l.i ≤ l.place;
      ends : l.place ≤ l.end;
      walked : g.D.Disk.tells → BeginsEntries l.i (part (l.at + l.from) (l.end - l.from) (moment l.fn.disk).reads) (part (l.at + l.place) (l.end - l.place) (moment l.fn.disk).reads);
    }
