use Rattle.std.proofs.Common.{List, [], take}
use Rattle.edge_disk.specs.Calls.{Calls}
use Rattle.edge_disk.specs.Disk.{IsUntouched}
use Rattle.spool_state.specs.SpoolState.{OpenSlot, SpoolState}
use Rattle.spool_log.specs.State.{view, IsIn}
use Rattle.bridge_rescue.specs.Looking.{AreKnown}
use Rattle.bridge_restore.specs.Storing.{HasStored}
use Rattle.bridge_restore.specs.Told.{told}
use Rattle.bridge_restore.proofs.storing.store_slots.Given as goal

abbrev pub invariant-loop-found : goal.invariant-loop-found
invariant-loop-found g l =
    let moment = g.D.Disk.moment in
    let onto = g.E.Disk.moment in
    record {
      calls : Calls ⊥ (moment l.fn.disk) (moment l.disk);
      target_calls : Calls ⊥ (onto l.fn.target.disk) (onto l.target.disk);
      untouched : g.D.Disk.tells → IsUntouched (moment l.fn.disk) (moment l.disk);
      stored : (slots : List OpenSlot) (t : SpoolState) → g.D.Disk.tells → g.E.Disk.tells → AreKnown slots l.founds (moment l.fn.disk).reads
          → IsIn t [] (view l.fn.target.memory l.fn.target.doubt (onto l.fn.target.disk))
          → HasStored t (told l.tag (take l.found-index slots)) (view l.fn.target.memory l.fn.target.doubt (onto l.fn.target.disk))
          (view l.target.memory l.target.doubt (onto l.target.disk));
    }
