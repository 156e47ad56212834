use Rattle.std.proofs.Common.{◌≡◌, ◌+◌, ◌++◌, [], length}
use Rattle.std.specs.Vec.Iter.{into_iter_items, into_iter_len}
use Rattle.edge_disk.specs.Calls.{Calls}
use Rattle.spool_state.specs.SpoolState.{SpoolState}
use Rattle.spool_log.specs.State.{view, IsIn}
use Rattle.bridge_restore.specs.Storing.{HasStored}
use Rattle.bridge_restore.specs.Told.{told_from}
use Rattle.bridge_restore.proofs.storing.store_entries.Given as goal

abbrev pub invariant-loop-entry : goal.invariant-loop-entry
invariant-loop-entry g l = record {
  can_next : (goal.iterator-loop-entry g).can_next l.entry-iterator;
  is_finite : (goal.iterator-loop-entry g).is_finite l.entry-iterator;
  parts : l.fn.entries.items ≡ l.yielded ++ into_iter_items l.entry-iterator;
  whole : into_iter_len l.entry-iterator ≡ length (into_iter_items l.entry-iterator);
  number_is : l.number ≡ l.fn.first + length l.yielded;
  calls : Calls ⊥ (g.E.Disk.moment l.initial.target.disk) (g.E.Disk.moment l.target.disk);
  stored : (t : SpoolState) → g.E.Disk.tells → IsIn t [] (view l.initial.target.memory l.initial.target.doubt (g.E.Disk.moment l.initial.target.disk))
      → HasStored t (told_from l.tag l.fn.first l.yielded) (view l.initial.target.memory l.initial.target.doubt (g.E.Disk.moment l.initial.target.disk))
      (view l.target.memory l.target.doubt (g.E.Disk.moment l.target.disk));
}
