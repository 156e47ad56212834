-- What memory keeps, and the length of its device.
use Rattle.std.specs.Prelude.{◌≡◌, ℕ, ◌+◌, ◌≤◌, List, [], ◌∷◌}
use Rattle.std.specs.Coded.{Coded-set, coded_ℕ, ×_prop, Unit-prop, le_prop}
use Rattle.known_numbers.specs.declared.stretch.Stretch.{Stretch}
use Rattle.known_numbers.specs.Numbers.{Numbers, AreApart, EndBy}
use Rattle.spool_state.specs.Layout.{most_number}
use Rattle.spool_state.specs.Image.{slot_at}
use Rattle.disk_cell.specs.declared.content.Content.{Content}
use Rattle.spool_slots.specs.declared.slot.Slot.{Slot}

-- The slot lies in a device of so many slots of this size, and the numbers of its entries end at 2^63 or before.
pub record LiesIn (slots size : ℕ) (slot : Slot) : Type 0 where
  pub wide : slot.size ≡ size
  pub inside : slot.at + size ≤ slot_at size slots
  pub ends : slot.first + slot.count ≤ most_number

-- the number of the first entry of the first of these slots, or this one where there is none
abbrev pub first_in : List Slot → ℕ → ℕ
first_in [] first = first
first_in (slot ∷ slots) first = slot.first

-- each slot's numbers go on from those of the one before, up to this number
abbrev pub GoOn : List Slot → ℕ → Type 0
GoOn [] first = Unit {0}
GoOn (slot ∷ slots) first = (first_in slots first ≡ slot.first + slot.count) × GoOn slots first

-- the known numbers that a register holds
abbrev pub numbers_in : Content → Numbers
numbers_in content = record { cursor = content.cursor; stretches = content.known.items }

-- Each of these has at most one proof.
pub GoOn-prop : (slots : List Slot) (first : ℕ) → IsProp (GoOn slots first)
GoOn-prop [] first = Unit-prop
GoOn-prop (slot ∷ slots) first = ×_prop (Coded-set coded_ℕ (first_in slots first) (slot.first + slot.count)) (GoOn-prop slots first)

pub AreApart-prop : (below : ℕ) (stretches : List Stretch) → IsProp (AreApart below stretches)
AreApart-prop below [] = Unit-prop
AreApart-prop below (stretch ∷ stretches) = λ x y i. (le_prop x.0 y.0 i, le_prop x.1 y.1 i, AreApart-prop stretch.to stretches x.2 y.2 i)

pub EndBy-prop : (end : ℕ) (stretches : List Stretch) → IsProp (EndBy end stretches)
EndBy-prop end [] = Unit-prop
EndBy-prop end (stretch ∷ stretches) = ×_prop le_prop (EndBy-prop end stretches)

-- Known numbers that may come after those below a cursor, where entries end at a number.
pub record MayFollow (cursor end : ℕ) (numbers : Numbers) : Type 0 where
  pub reaches : cursor ≤ numbers.cursor
  pub within : numbers.cursor ≤ end
  pub stretches : EndBy end numbers.stretches
