use Rattle.std.proofs.Common.{◌≡◌, ◌+◌, ◌≤◌, ◌++◌, ℕ, List, length}
use Rattle.foundation.specs.Bytes.{SameBut}
use Rattle.edge_disk.specs.Calls.{Calls}
use Rattle.edge_disk.specs.Disk.{LeavesOnly}
use Rattle.edge_disk.specs.Gate.{ComesFrom}
use Rattle.spool_slots.specs.Pen.{HasWritten}
use Rattle.spool_slots.proofs.pen.Pen.write.Given as goal

abbrev pub invariant-loop-rest : goal.invariant-loop-rest
invariant-loop-rest g l =
    let moment = g.D.Disk.moment in
    record {
      calls : Calls ⊥ (moment l.fn.disk) (moment l.disk);
      goes_on : l.fn.self.at ≤ l.self.at;
      took : l.self.at + l.self.filled + length l.rest ≡ l.fn.self.at + l.fn.self.filled + length l.text;
      run : g.D.Disk.tells → LeavesOnly (ComesFrom (moment l.fn.disk) (SameBut l.fn.self.at (l.fn.self.filled + length l.text))) (moment l.fn.disk) (moment l.disk);
      written : (done : List ℕ) × (done ++ l.rest ≡ l.text) × ((start : ℕ) (base before : List ℕ) → g.D.Disk.tells → HasWritten start base before l.fn.self.at l.fn.self.filled l.fn.buffer (moment l.fn.disk).reads → HasWritten start base (before ++ done) l.self.at l.self.filled l.buffer (moment l.disk).reads);
    }

abbrev pub decreases-loop-rest : goal.decreases-loop-rest
decreases-loop-rest g l = length l.rest
