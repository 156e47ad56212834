use Rattle.std.proofs.Common.{◌≡◌, ◌++◌, take, drop}
use Rattle.known_numbers.specs.declared.stretch.Stretch.{Stretch}
use Rattle.known_numbers.specs.Numbers.{added}
use Rattle.known_numbers.proofs.joins.passed.Given as goal

-- a stretch that begins at the number is added after those that were passed
abbrev pub invariant-loop-count : goal.invariant-loop-count
invariant-loop-count l = (m : Stretch) → m.from ≡ l.from → added m l.stretches ≡ take l.count l.stretches ++ added m (drop l.count l.stretches)
