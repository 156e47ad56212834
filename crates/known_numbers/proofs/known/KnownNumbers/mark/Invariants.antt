use Rattle.std.proofs.Common.{◌≡◌, drop}
use Rattle.known_numbers.specs.Numbers.{marked}
use Rattle.known_numbers.proofs.known.KnownNumbers.mark.Given as goal

abbrev pub invariant-loop-stretch : goal.invariant-loop-stretch
invariant-loop-stretch l = marked l.initial.self l.more ≡ marked l.self (drop l.stretch-index l.more)
