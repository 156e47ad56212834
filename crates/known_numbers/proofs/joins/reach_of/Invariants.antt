use Rattle.std.proofs.Common.{◌≡◌, drop}
use Rattle.known_numbers.specs.Numbers.{raised}
use Rattle.known_numbers.proofs.joins.reach_of.Given as goal

abbrev pub invariant-loop-count : goal.invariant-loop-count
invariant-loop-count l = raised l.to l.stretches ≡ raised l.end (drop l.count l.stretches)
