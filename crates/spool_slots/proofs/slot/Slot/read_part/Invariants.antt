use Rattle.std.proofs.Common.{◌≡◌, ◌+◌, ◌-◌, length, take, drop, All}
use Rattle.event_form.specs.Entry.{IsEntry}
use Rattle.edge_disk.specs.Calls.{Calls}
use Rattle.edge_disk.specs.Disk.{IsUntouched}
use Rattle.spool_state.specs.Segment.{Segment, entries_of}
use Rattle.spool_slots.specs.Mark.{IsMark}
use Rattle.spool_slots.specs.Slot.{Knows}
use Rattle.spool_slots.specs.Window.{IsWindow}
use Rattle.spool_slots.proofs.slot.Slot.read_part.Given as goal

abbrev pub invariant-loop-i : goal.invariant-loop-i
invariant-loop-i g l =
    let moment = g.D.Disk.moment in
    record {
      calls : Calls ⊥ (moment l.fn.disk) (moment l.disk);
      told : g.D.Disk.tells → IsUntouched (moment l.fn.disk) (moment l.disk);
      window : g.D.Disk.tells → IsWindow l.self.at l.window (moment l.disk).reads;
      number : l.here.number ≡ l.fn.mark.number + l.i;
      counted : length l.entries.items ≡ l.i;
      limits : All IsEntry l.entries.items;
      read : (segment : Segment) → g.D.Disk.tells → Knows l.self segment (moment l.fn.disk).reads → IsMark segment l.fn.mark
          → IsMark segment l.here × (l.entries.items ≡ take l.i (drop (l.fn.mark.number - segment.first) (entries_of segment)));
    }
