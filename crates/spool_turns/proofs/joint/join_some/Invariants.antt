use Rattle.std.proofs.Common.{◌≡◌, ◌+◌, ◌≤◌, ◌++◌, length, reverse}
use Rattle.std.specs.Vec.{vec_len, vec_capacity}
use Rattle.spool_state.specs.Segment.{entries_text}
use Rattle.desk_access.specs.JointRecords.{joined, ArePartsOf}
use Rattle.spool_turns.specs.Joining.{parts_of, numbers_of, AreRising}
use Rattle.spool_turns.proofs.JointRecords.{next_number}
use Rattle.spool_turns.proofs.joint.join_some.Given as goal

abbrev pub invariant-loop-letter : goal.invariant-loop-letter
invariant-loop-letter g l =
    (l.fn.letters.items ≡ l.letters.items ++ reverse (numbers_of l.group.items))
    × ArePartsOf (parts_of l.group.items)
    × AreRising 0 (parts_of l.group.items)
    × (l.room.least ≡ next_number 0 (parts_of l.group.items))
    × (l.entries.items ≡ joined (parts_of l.group.items))
    × (l.room.bytes + length (entries_text l.entries.items) ≡ l.fn.room.bytes)
    × (l.room.count + length l.entries.items ≡ l.fn.room.count)
    × (vec_len l.letters + vec_len l.group ≡ vec_len l.fn.letters)
    × (vec_capacity l.letters ≡ vec_capacity l.fn.letters)
    × (vec_len l.group + vec_len l.letters ≤ vec_capacity l.group)

abbrev pub decreases-loop-letter : goal.decreases-loop-letter
decreases-loop-letter g l = vec_len l.letters
