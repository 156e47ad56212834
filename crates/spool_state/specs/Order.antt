-- The open slots of a device in order of ordinal, and the first of them that is at fault.
use Rattle.std.specs.Prelude.{◌≡◌, ◌≢◌, ◌⊎◌, ℕ, ◌+◌, ◌^◌, ◌<◌, ◌≤◌, List, [], ◌∷◌, length, slice_index, All}
use Rattle.spool_state.specs.Layout.{most_number}
use Rattle.spool_state.specs.Segment.{IsGroup, entries_of}
use Rattle.spool_state.specs.SpoolState.{OpenSlot, HasEarlyOrdinal, AreElsewhere}
use Rattle.spool_state.specs.Image.{slot_at, HoldsSlot}

-- the one comes before the other: by ordinal, and by place where they have one ordinal
abbrev pub ComesBefore : OpenSlot → OpenSlot → Type 0
ComesBefore slot other = (slot.segment.ordinal < other.segment.ordinal) ⊎ ((slot.segment.ordinal ≡ other.segment.ordinal) × (slot.place < other.place))

abbrev pub AreSorted : List OpenSlot → Type 0
AreSorted [] = Unit
AreSorted (slot ∷ slots) = All (ComesBefore slot) slots × AreSorted slots

-- On a device of so many slots of this size the slot is open, and holds its segment of sound groups.
pub record IsFound (slots size : ℕ) (c : List ℕ) (slot : OpenSlot) : Type 0 where
  pub place : slot.place < slots
  pub holds : HoldsSlot size slot c
  pub groups : All IsGroup slot.segment.groups
  -- an ordinal and a first number have eight bytes
  pub ordinal : slot.segment.ordinal < 2 ^ 64
  pub first : slot.segment.first < 2 ^ 64

-- These are all the open slots, in order.
pub record AreOpenSlots (slots size : ℕ) (c : List ℕ) (opened : List OpenSlot) : Type 0 where
  pub found : All (IsFound slots size c) opened
  pub sorted : AreSorted opened
  pub others : (place : ℕ) → place < slots → AreElsewhere place opened → slice_index c (slot_at size place) ≢ 1

-- how many entries a slot has
abbrev pub count_of : OpenSlot → ℕ
count_of slot = length (entries_of slot.segment)

-- The slot, with these after it, is as it must be where this ordinal and this first number are due.
pub record IsInOrder (slot : OpenSlot) (behind : List OpenSlot) (ordinal first : ℕ) : Type 0 where
  pub ordinal_due : slot.segment.ordinal ≡ ordinal
  pub first_due : slot.segment.first ≡ first
  -- the active one, after which there is none, may have no entry
  pub some : 0 < length behind → 0 < count_of slot
  pub early : HasEarlyOrdinal slot
  pub ends : slot.segment.first + count_of slot ≤ most_number

-- Each of them is. Of the next one the ordinal plus 1 is due, and the first number plus the count.
abbrev pub AreInOrder : List OpenSlot → ℕ → ℕ → Type 0
AreInOrder [] ordinal first = Unit
AreInOrder (slot ∷ behind) ordinal first = IsInOrder slot behind ordinal first × AreInOrder behind (slot.segment.ordinal + 1) (slot.segment.first + count_of slot)

-- The first of them that isn't has this place.
abbrev pub FirstAtFault : List OpenSlot → ℕ → ℕ → ℕ → Type 0
FirstAtFault [] ordinal first place = ⊥
FirstAtFault (slot ∷ behind) ordinal first place =
    ((place ≡ slot.place) × (IsInOrder slot behind ordinal first → ⊥))
    ⊎ (IsInOrder slot behind ordinal first × FirstAtFault behind (slot.segment.ordinal + 1) (slot.segment.first + count_of slot) place)
