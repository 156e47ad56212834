use Rattle.std.proofs.Common.{take}
use Rattle.known_numbers.specs.Numbers.{IsInSome}
use Rattle.bridge_skip.proofs.releasing.is_in_some.Given as goal

abbrev pub invariant-loop-stretch : goal.invariant-loop-stretch
invariant-loop-stretch l = IsInSome (take l.stretch-index l.stretches) l.number → ⊥
