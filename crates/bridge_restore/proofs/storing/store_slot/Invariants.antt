use Rattle.std.proofs.Common.{◌-◌, ◌≤◌, []}
use Rattle.edge_disk.specs.Calls.{Calls}
use Rattle.edge_disk.specs.Disk.{IsUntouched}
use Rattle.spool_state.specs.Segment.{Segment}
use Rattle.spool_state.specs.SpoolState.{SpoolState}
use Rattle.spool_slots.specs.Slot.{Knows}
use Rattle.spool_slots.specs.Mark.{IsMark}
use Rattle.spool_log.specs.State.{view, IsIn}
use Rattle.bridge_restore.proofs.Parts.{StoresUpTo}
use Rattle.bridge_restore.proofs.storing.store_slot.Given as goal

abbrev pub invariant-parts : goal.invariant-parts
invariant-parts g l =
    let moment = g.D.Disk.moment in
    let onto = g.E.Disk.moment in
    record {
      calls : Calls ⊥ (moment l.fn.disk) (moment l.disk);
      target_calls : Calls ⊥ (onto l.fn.target.disk) (onto l.target.disk);
      told : g.D.Disk.tells → IsUntouched (moment l.fn.disk) (moment l.disk);
      begins : l.slot.first ≤ l.mark.number;
      ends : l.mark.number ≤ l.end;
      stored : (segment : Segment) (t : SpoolState) → g.D.Disk.tells → g.E.Disk.tells → Knows l.slot segment (moment l.fn.disk).reads
          → IsIn t [] (view l.fn.target.memory l.fn.target.doubt (onto l.fn.target.disk))
          → IsMark segment l.mark × StoresUpTo l.tag segment (l.mark.number - segment.first) t (view l.fn.target.memory l.fn.target.doubt (onto l.fn.target.disk))
          (view l.target.memory l.target.doubt (onto l.target.disk));
    }

abbrev pub decreases-parts : goal.decreases-parts
decreases-parts g l = l.end - l.mark.number
