use Rattle.std.proofs.Common.{◌≡◌, ◌+◌, ◌≤◌, ◌++◌, reverse}
use Rattle.std.specs.Vec.{vec_len, vec_capacity}
use Rattle.spool_turns.proofs.turn.Turn.answer_all.Given as goal

abbrev pub invariant-loop-self : goal.invariant-loop-self
invariant-loop-self g l =
    (l.answers.items ++ reverse l.letters.items ≡ l.fn.answers.items ++ l.fn.letters.items)
    × (vec_len l.answers + vec_len l.letters ≤ vec_capacity l.answers)
    × (vec_capacity l.answers ≡ vec_capacity l.fn.answers)
    × (vec_capacity l.letters ≡ vec_capacity l.fn.letters)

abbrev pub decreases-loop-self : goal.decreases-loop-self
decreases-loop-self g l = vec_len l.letters
