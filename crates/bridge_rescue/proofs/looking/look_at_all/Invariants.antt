use Rattle.edge_disk.specs.Calls.{Calls}
use Rattle.edge_disk.specs.Disk.{IsUntouched}
use Rattle.bridge_rescue.specs.Faults.{HasUnread}
use Rattle.bridge_rescue.specs.Looking.{AreReadable, HasRoom, KnowsAll}
use Rattle.bridge_rescue.proofs.looking.look_at_all.Given as goal

abbrev pub invariant-loop-place : goal.invariant-loop-place
invariant-loop-place g l =
    let moment = g.D.Disk.moment in
    record {
      room : HasRoom l.layout.slots l.place l.looked;
      calls : Calls (HasUnread l.looked.faults.items) (moment l.fn.disk) (moment l.disk);
      told : g.D.Disk.tells → IsUntouched (moment l.fn.disk) (moment l.disk);
      readable : AreReadable (moment l.fn.disk).size l.looked.found.items;
      known : g.D.Disk.tells → KnowsAll l.place l.layout.size (moment l.fn.disk).reads l.looked;
    }
