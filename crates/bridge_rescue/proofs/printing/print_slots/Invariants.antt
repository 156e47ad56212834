use Rattle.std.proofs.Common.{◌≡◌, ◌*◌, ◌≤◌, List, take, length}
use Rattle.edge_disk.specs.Calls.{Calls}
use Rattle.edge_disk.specs.Disk.{IsUntouched}
use Rattle.spool_state.specs.SpoolState.{OpenSlot, entries_in}
use Rattle.bridge_rescue.specs.Lines.{Gathered}
use Rattle.bridge_rescue.specs.Looking.{AreKnown}
use Rattle.bridge_rescue.proofs.printing.print_slots.Given as goal

abbrev pub invariant-loop-found : goal.invariant-loop-found
invariant-loop-found g l =
    let moment = g.D.Disk.moment in
    record {
      calls : Calls ⊥ (moment l.fn.disk) (moment l.disk);
      told : g.D.Disk.tells → IsUntouched (moment l.fn.disk) (moment l.disk);
      writes : g.K.Sink.write_faults l.output ≡ g.K.Sink.write_faults l.fn.output;
      few : l.count ≤ 1073741824 * l.found-index;
      gathered : (sound : List OpenSlot) → g.D.Disk.tells → AreKnown sound l.founds (moment l.fn.disk).reads
          → Gathered (entries_in (take l.found-index sound)) (g.K.Sink.taken l.fn.output) (g.K.Sink.taken l.output) l.lines.items
          × (l.count ≡ length (entries_in (take l.found-index sound)));
    }
