use Rattle.std.proofs.Common.{◌-◌, ◌≤◌}
use Rattle.edge_disk.specs.Calls.{Calls}
use Rattle.edge_disk.specs.Disk.{IsUntouched}
use Rattle.spool_state.specs.Segment.{Segment}
use Rattle.spool_slots.specs.Mark.{IsMark}
use Rattle.spool_slots.specs.Slot.{Knows}
use Rattle.spool_slots.specs.Window.{IsWindow}
use Rattle.spool_slots.proofs.slot.Slot.pass.Given as goal

abbrev pub invariant-loop-here : goal.invariant-loop-here
invariant-loop-here g l =
    let moment = g.D.Disk.moment in
    record {
      calls : Calls ⊥ (moment l.fn.disk) (moment l.disk);
      told : g.D.Disk.tells → IsUntouched (moment l.fn.disk) (moment l.disk);
      window : g.D.Disk.tells → IsWindow l.self.at l.window (moment l.disk).reads;
      before : l.here.number ≤ l.number;
      mark : (segment : Segment) → g.D.Disk.tells → Knows l.self segment (moment l.fn.disk).reads → IsMark segment l.fn.mark → IsMark segment l.here;
    }

abbrev pub decreases-loop-here : goal.decreases-loop-here
decreases-loop-here g l = l.number - l.here.number
