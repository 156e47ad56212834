-- Numbers that are known: those below a cursor, and some stretches above it.
use Rattle.std.specs.Prelude.{ℕ, ◌+◌, ◌-◌, ◌<◌, ◌≤◌, ◌⊎◌, min, max, ltb, leb, if◌then◌else◌, List, [], ◌∷◌, length}
use Rattle.known_numbers.specs.declared.stretch.Stretch.{Stretch}
use Rattle.known_numbers.specs.declared.stretch.TheConstants.{MOST_STRETCHES}

-- the number is one of the stretch
abbrev pub IsWithin : Stretch → ℕ → Type 0
IsWithin stretch n = (stretch.from ≤ n) × (n < stretch.to)

-- it is one of some stretch
abbrev pub IsInSome : List Stretch → ℕ → Type 0
IsInSome [] n = ⊥
IsInSome (stretch ∷ stretches) n = IsWithin stretch n ⊎ IsInSome stretches n

-- no stretch is empty, the first begins above a number, and each begins above the end of the one before
abbrev pub AreApart : ℕ → List Stretch → Type 0
AreApart below [] = Unit {0}
AreApart below (stretch ∷ stretches) = (below < stretch.from) × (stretch.from < stretch.to) × AreApart stretch.to stretches

-- each stretch ends at or below a number
abbrev pub EndBy : ℕ → List Stretch → Type 0
EndBy end [] = Unit {0}
EndBy end (stretch ∷ stretches) = (stretch.to ≤ end) × EndBy end stretches

-- how many numbers the stretches have, which are apart
abbrev pub count_of : List Stretch → ℕ
count_of [] = 0
count_of (stretch ∷ stretches) = stretch.to - stretch.from + count_of stretches

-- all numbers below a cursor, and those of the stretches above it
pub record Numbers : Type 0 where
  pub cursor : ℕ
  pub stretches : List Stretch

abbrev pub numbers_of : ℕ → List Stretch → Numbers
numbers_of cursor stretches = record { cursor = cursor; stretches = stretches }

-- the number is below the cursor or in a stretch
abbrev pub IsKnown : Numbers → ℕ → Type 0
IsKnown numbers n = (n < numbers.cursor) ⊎ IsInSome numbers.stretches n

-- The stretches are apart above the cursor, and at most 240.
pub record IsSound (numbers : Numbers) : Type 0 where
  pub apart : AreApart numbers.cursor numbers.stretches
  pub few : length numbers.stretches ≤ MOST_STRETCHES

-- the cursor raised, and past each stretch that it reaches
abbrev pub raised : ℕ → List Stretch → Numbers
raised cursor [] = numbers_of cursor []
raised cursor (stretch ∷ stretches) =
    if leb stretch.from cursor then raised (max cursor stretch.to) stretches else numbers_of cursor (stretch ∷ stretches)

-- two stretches that touch, as one
abbrev pub both : Stretch → Stretch → Stretch
both a b = record { from = min a.from b.from; to = max a.to b.to }

-- the stretches with one more, which becomes one with those that it touches
abbrev pub added : Stretch → List Stretch → List Stretch
added more [] = more ∷ []
added more (stretch ∷ stretches) =
    if ltb stretch.to more.from then stretch ∷ added more stretches else (if ltb more.to stretch.from then more ∷ stretch ∷ stretches else added (both stretch more) stretches)

-- The known numbers joined with those of a stretch. An empty one changes nothing, and one that reaches the
-- cursor raises it.
abbrev pub joined : Numbers → Stretch → Numbers
joined numbers more =
    if leb more.to more.from then numbers else (if leb more.from numbers.cursor then raised (max numbers.cursor more.to) numbers.stretches else numbers_of numbers.cursor (added more numbers.stretches))

-- the first where its stretches are at most 240, and else the second
abbrev pub fitting : Numbers → Numbers → Numbers
fitting new old = if leb (length new.stretches) MOST_STRETCHES then new else old

-- Stretches added one after another. One that would make more than 240 of them isn't added.
abbrev pub marked : Numbers → List Stretch → Numbers
marked numbers [] = numbers
marked numbers (more ∷ others) = marked (fitting (joined numbers more) numbers) others

-- The least number at or above one that isn't known.
pub record IsNextUnknown (numbers : Numbers) (from n : ℕ) : Type 0 where
  pub above : from ≤ n
  pub unknown : IsKnown numbers n → ⊥
  pub passed : (k : ℕ) → from ≤ k → k < n → IsKnown numbers k
