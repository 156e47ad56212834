use Rattle.std.proofs.Common.{◌-◌, ◌≤◌, List, ℕ, ◌++◌, length, take}
use Rattle.http_reply.specs.Parts.{IsPart}
use Rattle.http_reply.proofs.part.run.Given as goal

abbrev pub invariant-loop-i : goal.invariant-loop-i
invariant-loop-i l = (l.i ≤ length l.bytes) × ((b : List ℕ) → IsPart l.fn.part b → IsPart l.now (b ++ take l.i l.bytes))

abbrev pub decreases-loop-i : goal.decreases-loop-i
decreases-loop-i l = length l.bytes - l.i
