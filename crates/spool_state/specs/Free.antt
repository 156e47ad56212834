-- Slots in which a new segment can be begun.
use Rattle.std.specs.Prelude.{◌≡◌, ◌≢◌, ◌⊎◌, ℕ, zero, suc, ◌+◌, ◌<◌, ◌≤◌, ◌==◌, ◌||◌, Bool, true, false, nat_le, List, [], ◌∷◌, length, Option, None, Some}
use Rattle.std.specs.List.{Contains}
use Rattle.spool_state.specs.Segment.{entries_of}
use Rattle.spool_state.specs.SpoolState.{OpenSlot, SpoolState, AreElsewhere}

-- the number after the slot's last entry
abbrev pub end_of : OpenSlot → ℕ
end_of slot = slot.segment.first + length (entries_of slot.segment)

-- ---- by its definition

-- the slot of that place is closed
pub record IsClosed (s : SpoolState) (place : ℕ) : Type 0 where
  pub within : place < s.slots
  pub inactive : s.active.place ≢ place
  pub elsewhere : AreElsewhere place s.older

-- it is open, but not the active one, and all its entries are below the cursor
pub record IsPassed (s : SpoolState) (place : ℕ) : Type 0 where
  pub slot : OpenSlot
  pub older : Contains s.older slot
  pub here : slot.place ≡ place
  pub below : end_of slot ≤ s.cursor

-- The slot of that place is free.
abbrev pub IsFree : SpoolState → ℕ → Type 0
IsFree s place = IsClosed s place ⊎ IsPassed s place

-- no slot is
abbrev pub NoneIsFree : SpoolState → Type 0
NoneIsFree s = (place : ℕ) → IsFree s place → ⊥

-- ---- the one that is taken: the closed one of lowest place, else the first older one where it is free

-- one of the slots has that place
abbrev pub has_place : ℕ → List OpenSlot → Bool
has_place place [] = false
has_place place (slot ∷ slots) = slot.place == place || has_place place slots

-- all entries of the slot are below the cursor
abbrev pub is_confirmed : SpoolState → OpenSlot → Bool
is_confirmed s slot = nat_le (end_of slot) s.cursor

-- the place found so far, or else this one where it isn't taken
abbrev pub or_else : Option ℕ → Bool → ℕ → Option ℕ
or_else (Some found) taken place = Some found
or_else None true place = None
or_else None false place = Some place

-- the lowest place below n of a closed slot
abbrev pub lowest_closed : SpoolState → ℕ → Option ℕ
lowest_closed s zero = None
lowest_closed s (suc n) = or_else (lowest_closed s n) (s.active.place == n || has_place n s.older) n

-- whether the first of these slots has all its entries below the cursor
abbrev pub first_is_confirmed : SpoolState → List OpenSlot → Bool
first_is_confirmed s [] = false
first_is_confirmed s (slot ∷ slots) = is_confirmed s slot
