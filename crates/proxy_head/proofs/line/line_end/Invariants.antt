use Rattle.std.proofs.Common.{ℕ, ◌<◌}
use Rattle.proxy_head.specs.Line.{EndsAt}
use Rattle.proxy_head.proofs.line.line_end.Given as goal

abbrev pub invariant-loop-at : goal.invariant-loop-at
invariant-loop-at l = (k : ℕ) → k < l.at → EndsAt l.bytes k → ⊥
