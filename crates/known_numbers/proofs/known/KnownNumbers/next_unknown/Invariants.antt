use Rattle.std.proofs.Common.{drop}
use Rattle.known_numbers.proofs.Passing.{IsLeft}
use Rattle.known_numbers.proofs.known.KnownNumbers.next_unknown.Given as goal

abbrev pub invariant-loop-stretch : goal.invariant-loop-stretch
invariant-loop-stretch l = IsLeft l.stretch-items l.start (drop l.stretch-index l.stretch-items)
