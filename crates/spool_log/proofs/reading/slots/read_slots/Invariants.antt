use Rattle.std.proofs.Common.{◌≤◌, All, vec_capacity}
use Rattle.edge_disk.specs.Calls.{Calls}
use Rattle.edge_disk.specs.Disk.{IsUntouched}
use Rattle.spool_log.specs.Reading.{IsPlaced, KnowsOpened}
use Rattle.spool_log.proofs.reading.slots.read_slots.Given as goal

abbrev pub invariant-loop-place : goal.invariant-loop-place
invariant-loop-place g l =
    let moment = g.D.Disk.moment in
    record {
      calls : Calls ⊥ (moment l.fn.disk) (moment l.disk);
      told : g.D.Disk.tells → IsUntouched (moment l.fn.disk) (moment l.disk);
      spare : l.slots ≤ vec_capacity l.opened;
      placed : All (IsPlaced l.slots l.size) l.opened.items;
      known : g.D.Disk.tells → KnowsOpened l.place l.size l.opened.items (moment l.fn.disk).reads;
    }
