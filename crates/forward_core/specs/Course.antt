-- How far a session is with the entries.
use Rattle.std.specs.Prelude.{◌≡◌, ◌+◌, ◌-◌, ◌<◌, ◌^◌, ℕ, Bool, false, if◌then◌else◌, List, [], ◌∷◌, ◌++◌, drop, slice_index}
use Rattle.known_numbers.specs.declared.stretch.Stretch.{Stretch}
use Rattle.forward_core.specs.declared.course.Course.{Course}

-- all numbers below one, and one number, as a stretch
abbrev pub below : ℕ → Stretch
below n = record { from = 0; to = n }

abbrev pub alone : ℕ → Stretch
alone n = record { from = n; to = n + 1 }

-- nothing was read yet of the entries from one number on and below another
pub record IsNew (start end : ℕ) (c : Course) : Type 0 where
  pub next : c.next ≡ start
  pub end_is : c.end ≡ end
  pub over : c.over ≡ false
  pub given : c.given ≡ 0
  pub marks : c.marks.items ≡ below 0 ∷ []

-- what isn't changed by what is told
pub record SameReading (old new : Course) : Type 0 where
  pub next : new.next ≡ old.next
  pub end : new.end ≡ old.end
  pub over : new.over ≡ old.over
  pub given : new.given ≡ old.given

-- one more of the first entries is told: all numbers up to its own are to be marked
pub record TellsNext (old new : Course) : Type 0 where
  pub told : new.told ≡ old.told + 1
  pub numbers : new.numbers.items ≡ drop 1 old.numbers.items
  pub marks : new.marks.items ≡ below (slice_index old.numbers.items 0 + 1) ∷ drop 1 old.marks.items
  pub rest : SameReading old new

-- so many of the first entries are told: all numbers up to that of the last of them are to be marked
pub record TellsFirst (told : ℕ) (old new : Course) : Type 0 where
  pub told_is : new.told ≡ told
  pub numbers : new.numbers.items ≡ drop (told - old.told) old.numbers.items
  pub marks : old.told < told → new.marks.items ≡ below (slice_index old.numbers.items (told - old.told - 1) + 1) ∷ drop 1 old.marks.items
  pub none : told ≡ old.told → new.marks.items ≡ old.marks.items
  pub rest : SameReading old new

-- the entry at this place is told
pub record TellsOne (place : ℕ) (old new : Course) : Type 0 where
  pub marks : new.marks.items ≡ old.marks.items ++ alone (slice_index old.numbers.items (place - old.told)) ∷ []
  pub told : new.told ≡ old.told
  pub numbers : new.numbers.items ≡ old.numbers.items
  pub rest : SameReading old new

-- only what is to be marked changed
pub record SameTold (old new : Course) : Type 0 where
  pub told : new.told ≡ old.told
  pub numbers : new.numbers.items ≡ old.numbers.items
  pub rest : SameReading old new

-- nothing changed but room in memory
pub record SameCourse (old new : Course) : Type 0 where
  pub marks : new.marks.items ≡ old.marks.items
  pub told : new.told ≡ old.told
  pub numbers : new.numbers.items ≡ old.numbers.items
  pub rest : SameReading old new

-- what is still to be read, and that it isn't told yet that no more entries come
abbrev pub reading_left : Course → ℕ
reading_left course = (course.end - course.next) + (if course.over then 0 else 1)

-- A number that each turn makes less that doesn't end the session: of the peer's bytes that may still be read, of the turns
-- that the sender may still take, and of what is still to be read.
abbrev pub work_left : ℕ → ℕ → Course → ℕ
work_left total spent course = (2 ^ 40 - total) + (2 ^ 100 - spent) + reading_left course
