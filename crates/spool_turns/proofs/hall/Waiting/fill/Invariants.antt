use Rattle.std.proofs.Common.{◌≤◌, vec_len}
use Rattle.std.specs.Vec.{vec_capacity}
use Rattle.spool_turns.proofs.hall.Waiting.fill.Given as goal

abbrev pub invariant-loop-place : goal.invariant-loop-place
invariant-loop-place g l = (vec_len l.letters ≤ l.place) × (g.J.Naming.seats ≤ vec_capacity l.letters)
