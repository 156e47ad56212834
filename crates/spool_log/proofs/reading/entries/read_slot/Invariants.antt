use Rattle.std.proofs.Common.{◌≡◌, ◌-◌, ◌≤◌, ◌++◌, length}
use Rattle.edge_disk.specs.Calls.{Calls}
use Rattle.edge_disk.specs.Disk.{IsUntouched}
use Rattle.spool_state.specs.Segment.{Segment, entries_of}
use Rattle.spool_slots.specs.Slot as Slots
use Rattle.spool_slots.specs.Mark.{IsMark}
use Rattle.spool_answers.specs.Pend.{given_entries, AreNumbered}
use Rattle.spool_log.proofs.Scans.Listing.{wanted_in}
use Rattle.spool_log.proofs.reading.entries.read_slot.Given as goal

abbrev pub invariant-parts : goal.invariant-parts
invariant-parts g l =
    let moment = g.D.Disk.moment in
    record {
      calls : Calls ⊥ (moment l.fn.disk) (moment l.disk);
      told : g.D.Disk.tells → IsUntouched (moment l.fn.disk) (moment l.disk);
      begins : l.slot.first ≤ l.mark.number;
      ends : l.mark.number ≤ l.end;
      few : length l.given.items ≤ l.most;
      rising : AreNumbered l.from l.mark.number l.given.items;
      read : (segment : Segment) → g.D.Disk.tells → Slots.Knows l.slot segment (moment l.fn.disk).reads → IsMark segment l.fn.start
          → IsMark segment l.began × IsMark segment l.mark × (given_entries l.given.items ≡ given_entries l.fn.given.items ++ wanted_in l.numbers l.from segment.first (entries_of segment) (l.mark.number - segment.first));
    }

abbrev pub decreases-parts : goal.decreases-parts
decreases-parts g l = l.end - l.mark.number
