use Rattle.std.proofs.Common.{◌≡◌, ◌+◌, ◌≤◌, ◌++◌, [], length}
use Rattle.std.specs.Vec.Iter.{into_iter_items, into_iter_len}
use Rattle.edge_disk.specs.Calls.{Calls}
use Rattle.edge_disk.specs.Disk.{LeavesOnly}
use Rattle.spool_state.specs.SpoolState.{SpoolState}
use Rattle.spool_answers.specs.Pend.{given_entries}
use Rattle.spool_log.specs.State.{view, IsIn}
use Rattle.spool_move.specs.Moved.{all_moved}
use Rattle.spool_move.specs.Stands.{HasTaken}
use Rattle.spool_move.specs.Walking.{absent, after_last, IsWalking}
use Rattle.spool_move.proofs.walking.taking.take_page.Given as goal

abbrev pub invariant-loop-one : goal.invariant-loop-one
invariant-loop-one g l = record {
  can_next : (goal.iterator-loop-one g).can_next l.one-iterator;
  is_finite : (goal.iterator-loop-one g).is_finite l.one-iterator;
  parts : l.fn.page.items ≡ l.yielded ++ into_iter_items l.one-iterator;
  whole : into_iter_len l.one-iterator ≡ length (into_iter_items l.one-iterator);
  upto_is : l.course.upto ≡ after_last l.initial.course.upto (given_entries l.yielded);
  taken_is : l.course.taken ≡ l.initial.course.taken + length (absent l.present (given_entries l.yielded));
  few : l.course.taken ≤ l.course.upto;
  calls : Calls ⊥ (g.E.Disk.moment l.initial.target.disk) (g.E.Disk.moment l.target.disk);
  taken : (t : SpoolState) → g.E.Disk.tells → IsIn t [] (view l.initial.target.memory l.initial.target.doubt (g.E.Disk.moment l.initial.target.disk))
      → (t' : SpoolState) × IsIn t' [] (view l.target.memory l.target.doubt (g.E.Disk.moment l.target.disk))
      × HasTaken t (all_moved l.tag (absent l.present (given_entries l.yielded))) t'
      × LeavesOnly (IsWalking l.tag l.present (given_entries l.yielded) t) (g.E.Disk.moment l.initial.target.disk) (g.E.Disk.moment l.target.disk);
}
