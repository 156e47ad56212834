-- The stretches that end below one that is added.
use Rattle.std.specs.Prelude.{◌≡◌, ℕ, ◌≤◌, List, [], ◌∷◌, ◌++◌, length, take, drop}
use Rattle.known_numbers.specs.declared.stretch.Stretch.{Stretch}
use Rattle.known_numbers.specs.Numbers.{added}

-- the first of the stretches, if any, doesn't end below a number
abbrev pub EndsFrom : ℕ → List Stretch → Type 0
EndsFrom from [] = Unit {0}
EndsFrom from (stretch ∷ stretches) = from ≤ stretch.to

-- The first n end below a number, so that a stretch that begins there is added after them. The next one doesn't.
pub record IsPassed (from : ℕ) (stretches : List Stretch) (n : ℕ) : Type 0 where
  pub within : n ≤ length stretches
  pub after : (more : Stretch) → more.from ≡ from → added more stretches ≡ take n stretches ++ added more (drop n stretches)
  pub next : EndsFrom from (drop n stretches)
