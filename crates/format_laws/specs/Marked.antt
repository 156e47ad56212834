-- Numbers that become known, said without a word on how they are kept.
use Rattle.std.specs.Prelude.{◌≡◌, ◌↔◌, ◌⊎◌, ℕ, ◌+◌, ◌<◌, ◌≤◌, List, [], ◌∷◌, length}
use Rattle.known_numbers.specs.declared.stretch.TheConstants.{MOST_STRETCHES}
use Rattle.known_numbers.specs.declared.stretch.Stretch.{Stretch}
use Rattle.known_numbers.specs.Numbers.{IsWithin, IsInSome, AreApart, Numbers, IsKnown, IsSound, marked}

-- Known are the numbers that were and those of the stretch, and no others. The cursor is the least that isn't, and the stretches are
-- the longest runs above it.
pub record IsJoined (old : Numbers) (more : Stretch) (new : Numbers) : Type 0 where
  pub knows : (n : ℕ) → IsKnown new n ↔ (IsKnown old n ⊎ IsWithin more n)
  pub apart : AreApart new.cursor new.stretches

-- The stretches are joined one after another. One that would make more than 240 of them isn't.
abbrev pub IsMarked : Numbers → List Stretch → Numbers → Type 0
IsMarked old [] new = old ≡ new
IsMarked old (more ∷ others) new =
    (next : Numbers) × IsJoined old more next
    × (((length next.stretches ≤ MOST_STRETCHES) × IsMarked next others new) ⊎ ((MOST_STRETCHES < length next.stretches) × IsMarked old others new))

-- What the definition `marked` makes of them is that, and nothing else is.
abbrev pub MarksAreJoined : Type 0
MarksAreJoined = (old new : Numbers) (more : List Stretch) → IsSound old → IsMarked old more new ↔ (marked old more ≡ new)

-- What was known stays known, and no number becomes known but those of the stretches. There are 240 runs at most, still apart.
pub record AddsOnly (old : Numbers) (more : List Stretch) (new : Numbers) : Type 0 where
  pub stays : (n : ℕ) → IsKnown old n → IsKnown new n
  pub only : (n : ℕ) → IsKnown new n → IsKnown old n ⊎ IsInSome more n
  pub sound : IsSound new

-- So it is of any stretches, also where some make too many runs.
abbrev pub MarksAddOnly : Type 0
MarksAddOnly = (old : Numbers) (more : List Stretch) → IsSound old → AddsOnly old more (marked old more)

-- Known are the numbers that were and all those of the stretches, and no others.
abbrev pub KnowsAll : Numbers → List Stretch → Numbers → Type 0
KnowsAll old more new = (n : ℕ) → IsKnown new n ↔ (IsKnown old n ⊎ IsInSome more n)

-- So it is where there are at most 240 of those that were and of the stretches together.
abbrev pub FewAreKnown : Type 0
FewAreKnown = (old : Numbers) (more : List Stretch) → IsSound old → length old.stretches + length more ≤ MOST_STRETCHES → KnowsAll old more (marked old more)

-- And so it is of all numbers below one, however many runs there are.
abbrev pub LowAreKnown : Type 0
LowAreKnown = (old : Numbers) (upto : ℕ) → IsSound old → KnowsAll old (record { from = 0; to = upto } ∷ []) (marked old (record { from = 0; to = upto } ∷ []))

-- Which numbers are known says what the cursor and the stretches are.
abbrev pub OneForm : Type 0
OneForm = (a b : Numbers) → AreApart a.cursor a.stretches → AreApart b.cursor b.stretches → ((n : ℕ) → IsKnown a n ↔ IsKnown b n) → a ≡ b
