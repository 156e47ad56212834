use Rattle.std.proofs.Common.{◌≡◌, ◌≤◌, length, drop}
use Rattle.edge_disk.specs.Calls.{Calls}
use Rattle.edge_disk.specs.Disk.{IsUntouched}
use Rattle.spool_state.specs.SpoolState.{SpoolState}
use Rattle.spool_log.specs.Device.{first_in, GoOn}
use Rattle.spool_log.specs.Knows.{IsStored}
use Rattle.spool_log.specs.Reading.Marked.{IsMarked}
use Rattle.spool_answers.specs.Pend.{given_entries, AreNumbered}
use Rattle.spool_log.proofs.Scans.Listing.{wanted_so_far}
use Rattle.spool_log.proofs.memory.Memory.read_from.Given as goal

abbrev pub invariant-loop-slot : goal.invariant-loop-slot
invariant-loop-slot g l =
    let moment = g.D.Disk.moment in
    record {
      calls : Calls ⊥ (moment l.fn.disk) (moment l.disk);
      told : g.D.Disk.tells → IsUntouched (moment l.fn.disk) (moment l.disk);
      few : length l.given.items ≤ l.most;
      go_on : GoOn (drop l.slot-index l.self.older.items) l.self.active.first;
      numbered : AreNumbered l.least (first_in (drop l.slot-index l.self.older.items) l.self.active.first) l.given.items;
      marked : (s : SpoolState) → g.D.Disk.tells → IsStored s l.self (moment l.fn.disk).reads → IsMarked s.older s.active l.bookmark;
      read : (s : SpoolState) → g.D.Disk.tells → IsStored s l.self (moment l.fn.disk).reads → given_entries l.given.items ≡ wanted_so_far s l.numbers l.least l.most l.slot-index;
    }
