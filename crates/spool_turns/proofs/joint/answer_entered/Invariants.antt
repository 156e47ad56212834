use Rattle.std.proofs.Common.{◌≡◌, ◌+◌, ◌≤◌, ◌++◌}
use Rattle.std.specs.Vec.{vec_len, vec_capacity}
use Rattle.std.specs.Vec.Iter.{into_iter_items, into_iter_len}
use Rattle.desk_access.specs.JointRecords.{joined}
use Rattle.spool_turns.specs.Passes.{facts_in}
use Rattle.spool_turns.specs.Joining.{parts_of, numbers_of, AreJoint}
use Rattle.spool_turns.proofs.joint.answer_entered.Given as goal

abbrev pub invariant-loop-letter : goal.invariant-loop-letter
invariant-loop-letter g l =
    (l.locked.table_id ≡ l.fn.locked.table_id) × (l.locked.me ≡ l.fn.locked.me)
    × AreJoint (facts_in l.fn.locked.me.0).log (into_iter_items l.left)
    × (into_iter_items l.group ≡ joined (parts_of (into_iter_items l.left)))
    × (l.answers.items ++ numbers_of (into_iter_items l.left) ≡ l.fn.answers.items ++ numbers_of l.fn.letters.items)
    × (vec_len l.answers + into_iter_len l.left ≤ vec_capacity l.answers)
    × (vec_capacity l.answers ≡ vec_capacity l.fn.answers)

abbrev pub decreases-loop-letter : goal.decreases-loop-letter
decreases-loop-letter g l = into_iter_len l.left
