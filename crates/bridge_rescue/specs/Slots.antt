-- Which slots of a device are sound.
use Rattle.std.specs.Prelude.{◌≡◌, ◌≢◌, ◌⊎◌, ℕ, ◌+◌, ◌<◌, ◌≤◌, List, [], ◌∷◌, length, slice_index, All}
use Rattle.std.specs.List.{Any}
use Rattle.spool_state.specs.Layout.{most_number}
use Rattle.spool_state.specs.SpoolState.{OpenSlot, AreElsewhere}
use Rattle.spool_state.specs.Image.{slot_at}
use Rattle.spool_state.specs.Order.{IsFound, count_of}
use Rattle.bridge_rescue.specs.declared.fault.SlotFault.{SlotFault}
use Rattle.bridge_rescue.specs.Faults.{IsFault, IsBefore, OfBroken, AreNotAt}

-- The slot stands whole on a device of so many slots of this size, is open and holds its segment of sound groups, and the number after its
-- last entry is at most 2^63. These are the layout's rules of one slot's entries; those of its neighbours and of the register are not asked.
pub record IsSound (slots size : ℕ) (c : List ℕ) (slot : OpenSlot) : Type 0 where
  pub found : IsFound slots size c slot
  pub inside : slot_at size slot.place + size ≤ length c
  pub ends : slot.segment.first + count_of slot ≤ most_number

-- the one's first number is the lower, or they have one first number, and its place is
abbrev pub ComesFirst : OpenSlot → OpenSlot → Type 0
ComesFirst slot other = (slot.segment.first < other.segment.first) ⊎ ((slot.segment.first ≡ other.segment.first) × (slot.place < other.place))

-- by their first numbers
abbrev pub AreInTurn : List OpenSlot → Type 0
AreInTurn [] = Unit
AreInTurn (slot ∷ slots) = All (ComesFirst slot) slots × AreInTurn slots

-- the slot stands whole on the device, and its gate isn't open
abbrev pub IsClosed : ℕ → ℕ → List ℕ → Type 0
IsClosed size place c = (slot_at size place + size ≤ length c) × (slice_index c (slot_at size place) ≢ 1)

-- their places rise
abbrev pub AreByPlace : List SlotFault → Type 0
AreByPlace [] = Unit
AreByPlace (fault ∷ more) = All (λ other. fault.place < other.place) more × AreByPlace more

-- What was found of a slot: all of it, where it is sound, or the groups before its fault.
abbrev pub IsFoundOf : ℕ → ℕ → List ℕ → List SlotFault → OpenSlot → Type 0
IsFoundOf slots size c faults slot = IsSound slots size c slot ⊎ Any (λ fault. IsBefore size c fault slot) faults

-- What was found is the sound slots and, of each one that is broken, the groups before its fault, in order of their first numbers. Each slot
-- of the device is among these, or one of those at fault, in order of place, or it is closed.
pub record AreJudged (slots size : ℕ) (c : List ℕ) (found : List OpenSlot) (faults : List SlotFault) : Type 0 where
  pub each : All (IsFoundOf slots size c faults) found
  pub turn : AreInTurn found
  pub wrong : All (IsFault slots size c) faults
  pub fronts : All (λ fault. OfBroken fault.why (Any (IsBefore size c fault) found)) faults
  pub by_place : AreByPlace faults
  pub others : (place : ℕ) → place < slots → AreElsewhere place found → AreNotAt place faults → IsClosed size place c
