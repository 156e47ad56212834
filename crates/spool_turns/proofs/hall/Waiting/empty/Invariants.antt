use Rattle.std.proofs.Common.{◌≤◌, vec_len}
use Rattle.std.specs.Vec.{vec_capacity}
use Rattle.spool_turns.proofs.hall.Waiting.empty.Given as goal

abbrev pub invariant-loop-answer : goal.invariant-loop-answer
invariant-loop-answer g l = g.J.Naming.seats ≤ vec_capacity l.answers

abbrev pub decreases-loop-answer : goal.decreases-loop-answer
decreases-loop-answer g l = vec_len l.answers
