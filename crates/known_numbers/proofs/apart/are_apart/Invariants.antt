use Rattle.std.proofs.Common.{◌↔◌, drop}
use Rattle.known_numbers.specs.Numbers.{AreApart}
use Rattle.known_numbers.proofs.apart.are_apart.Given as goal

abbrev pub invariant-loop-stretch : goal.invariant-loop-stretch
invariant-loop-stretch l = AreApart l.cursor l.stretches ↔ AreApart l.end (drop l.stretch-index l.stretches)
