use Rattle.std.proofs.Common.{◌≡◌, ◌-◌, ◌≤◌, ◌++◌, length}
use Rattle.std.specs.Vec.{vec_len, vec_capacity}
use Rattle.std.specs.Vec.Iter.{into_iter_items}
use Rattle.spool_turns.proofs.joining.bring_back.Given as goal

abbrev pub invariant-loop-group : goal.invariant-loop-group
invariant-loop-group l =
    (into_iter_items l.fn.group ≡ l.place.items ++ into_iter_items l.group)
    × (length l.place.items ≤ l.count)
    × (vec_capacity l.place ≡ vec_capacity l.fn.place)

abbrev pub decreases-loop-group : goal.decreases-loop-group
decreases-loop-group l = l.count - vec_len l.place
