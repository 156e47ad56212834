use Rattle.std.proofs.Common.{inl, inr}
use Rattle.std.proofs.lemmas.Bool.{cases_lt}
use Rattle.proxy_head.proofs.line.line_end.Goals as goal

pub returns-then-bytes-at-eq10-clause-first : goal.returns-then-bytes-at-eq10-clause-first
returns-then-bytes-at-eq10-clause-first c = λ k e. elim (cases_lt k c.loop-at.at) [ inl l ↦ absurd (c.loop-at.invariant k l e) | inr m ↦ m ]
