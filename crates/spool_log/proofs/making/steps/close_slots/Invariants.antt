use Rattle.std.proofs.Common.{◌≢◌, ℕ, ◌<◌, ◌≤◌, get_or}
use Rattle.edge_disk.specs.Calls.{Calls}
use Rattle.edge_disk.specs.Disk.{LeavesOnly}
use Rattle.edge_disk.specs.Gate.{ComesFrom}
use Rattle.spool_state.specs.Image.{slot_at}
use Rattle.spool_log.specs.Making.Format.{KeepsFront}
use Rattle.spool_log.proofs.making.steps.close_slots.Given as goal

abbrev pub invariant-loop-place : goal.invariant-loop-place
invariant-loop-place g l =
    let moment = g.D.Disk.moment in
    record {
      calls : Calls ⊥ (moment l.fn.disk) (moment l.disk);
      kept : g.D.Disk.tells → KeepsFront (slot_at l.size 1) (moment l.fn.disk).reads (moment l.disk).reads;
      closed : g.D.Disk.tells → (place : ℕ) → 1 ≤ place → place < l.place → get_or (moment l.disk).reads (slot_at l.size place) 0 ≢ 1;
      run : g.D.Disk.tells → LeavesOnly (ComesFrom (moment l.fn.disk) (KeepsFront 8)) (moment l.fn.disk) (moment l.disk);
    }
