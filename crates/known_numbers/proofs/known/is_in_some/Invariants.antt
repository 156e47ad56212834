use Rattle.std.proofs.Common.{◌↔◌, drop}
use Rattle.known_numbers.specs.Numbers.{IsInSome}
use Rattle.known_numbers.proofs.known.is_in_some.Given as goal

abbrev pub invariant-loop-stretch : goal.invariant-loop-stretch
invariant-loop-stretch l = IsInSome l.stretches l.number ↔ IsInSome (drop l.stretch-index l.stretches) l.number
