use Rattle.std.proofs.Common.{◌≡◌, ◌-◌, ◌≤◌, ℕ, List, Option}
use Rattle.event_form.specs.declared.event.Entry.{Entry}
use Rattle.edge_disk.specs.Calls.{Calls}
use Rattle.edge_disk.specs.Disk.{IsUntouched}
use Rattle.spool_state.specs.Segment.{Segment, entries_of}
use Rattle.spool_slots.specs.Slot.{Knows}
use Rattle.spool_slots.specs.Mark.{IsMark}
use Rattle.bridge_rescue.specs.Lines.{Gathered}
use Rattle.bridge_rescue.proofs.Reading.{GathersUpTo}
use Rattle.bridge_rescue.proofs.printing.print_slot.Given as goal

abbrev pub invariant-parts : goal.invariant-parts
invariant-parts g l =
    let moment = g.D.Disk.moment in
    record {
      calls : Calls ⊥ (moment l.fn.disk) (moment l.disk);
      told : g.D.Disk.tells → IsUntouched (moment l.fn.disk) (moment l.disk);
      writes : g.K.Sink.write_faults l.output ≡ g.K.Sink.write_faults l.fn.output;
      begins : l.slot.first ≤ l.mark.number;
      ends : l.mark.number ≤ l.end;
      gathers : (segment : Segment) (before : List Entry) (start : Option (List ℕ)) → g.D.Disk.tells → Knows l.slot segment (moment l.fn.disk).reads
          → Gathered before start (g.K.Sink.taken l.fn.output) l.fn.lines.items
          → IsMark segment l.mark × GathersUpTo before (entries_of segment) (l.mark.number - segment.first) start (g.K.Sink.taken l.output) l.lines.items;
    }

abbrev pub decreases-parts : goal.decreases-parts
decreases-parts g l = l.end - l.mark.number
