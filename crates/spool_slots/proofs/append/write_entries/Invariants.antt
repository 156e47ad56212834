use Rattle.std.proofs.Common.{◌≡◌, ◌+◌, ◌≤◌, ◌++◌, ℕ, List, length, take}
use Rattle.foundation.specs.Bytes.{SameBut}
use Rattle.edge_disk.specs.Calls.{Calls}
use Rattle.edge_disk.specs.Disk.{LeavesOnly}
use Rattle.edge_disk.specs.Gate.{ComesFrom}
use Rattle.spool_state.specs.Segment.{entries_text}
use Rattle.spool_slots.specs.Pen.{HasWritten}
use Rattle.spool_slots.proofs.append.write_entries.Given as goal

abbrev pub invariant-loop-entry : goal.invariant-loop-entry
invariant-loop-entry g l =
    let moment = g.D.Disk.moment in
    let done = entries_text (take l.entry-index l.entries) in
    record {
      calls : Calls ⊥ (moment l.fn.disk) (moment l.disk);
      goes_on : l.fn.pen.at ≤ l.pen.at;
      took : l.pen.at + l.pen.filled ≡ l.fn.pen.at + l.fn.pen.filled + length done;
      run : g.D.Disk.tells → LeavesOnly (ComesFrom (moment l.fn.disk) (SameBut l.fn.pen.at (l.fn.pen.filled + length (entries_text l.entries)))) (moment l.fn.disk) (moment l.disk);
      written : (start : ℕ) (base before : List ℕ) → g.D.Disk.tells → HasWritten start base before l.fn.pen.at l.fn.pen.filled l.fn.buffer (moment l.fn.disk).reads → HasWritten start base (before ++ done) l.pen.at l.pen.filled l.buffer (moment l.disk).reads;
    }
