-- The rules that the bytes of a whole device keep where they stand for a spool, and the place of the first
-- one that they break.
use Rattle.std.specs.Prelude.{◌≡◌, ◌≢◌, ◌⊎◌, ℕ, ◌+◌, ◌<◌, ◌≤◌, List, [], ◌∷◌, length, slice_index, All}
use Rattle.std.specs.Int.{from_be_bytes}
use mir.Syntax.{w32, w64}
use Rattle.foundation.specs.Bytes.{part}
use Rattle.known_numbers.specs.declared.stretch.Stretch.{Stretch}
use Rattle.known_numbers.specs.Numbers.{AreApart, EndBy}
use Rattle.spool_state.specs.Layout.{first_cell, second_cell, first_slot, most_slots, least_size, most_size}
use Rattle.spool_state.specs.Segment.{IsGroup, Segment}
use Rattle.spool_state.specs.SpoolState.{OpenSlot, entries_in, first_of, ordinal_of}
use Rattle.spool_state.specs.Cells.{cursor_at, known_at, IsCounting, HasBadContent, CellsBreak}
use Rattle.spool_state.specs.Image.{slot_at, magic, HoldsSegment}
use Rattle.spool_state.specs.Broken.{BreaksAt}
use Rattle.spool_state.specs.Order.{AreOpenSlots, AreInOrder, FirstAtFault}

-- ---- the first rules: the header

-- the number of slots that the header tells, and their size
abbrev pub slots_told : List ℕ → ℕ
slots_told c = from_be_bytes w32 (part 8 4 c)

abbrev pub size_told : List ℕ → ℕ
size_told c = from_be_bytes w64 (part 12 8 c)

-- there is room for the header and the two cells, and the device begins with the magic
pub record IsNamed (c : List ℕ) : Type 0 where
  pub room : first_slot ≤ length c
  pub name : part 0 8 c ≡ magic

-- so many slots of this size make a device of this length, and both numbers are in their ranges
pub record IsLayout (slots size len : ℕ) : Type 0 where
  pub some : 1 ≤ slots
  pub few : slots ≤ most_slots
  pub large : least_size ≤ size
  pub small : size ≤ most_size
  pub long : len ≡ slot_at size slots

-- the told numbers are the device's layout
abbrev pub IsMeasured : List ℕ → Type 0
IsMeasured c = IsLayout (slots_told c) (size_told c) (length c)

-- ---- then those of the cells

-- the cell there counts, and its content is good
pub record IsRegister (here other : ℕ) (c : List ℕ) : Type 0 where
  pub counting : IsCounting here other c
  pub good : HasBadContent here c → ⊥

-- this is the offset of the one that does
abbrev pub RegisterIsAt : ℕ → List ℕ → Type 0
RegisterIsAt cell c = ((cell ≡ first_cell) × IsRegister first_cell second_cell c) ⊎ ((cell ≡ second_cell) × IsRegister second_cell first_cell c)

-- The header and the cells keep all their rules.
pub record HasHead (cell : ℕ) (c : List ℕ) : Type 0 where
  pub named : IsNamed c
  pub measured : IsMeasured c
  pub register : RegisterIsAt cell c

-- ---- then those of the slots

-- the slot is closed, or holds a segment of sound groups
abbrev pub IsWhole : ℕ → ℕ → List ℕ → Type 0
IsWhole size place c = (slice_index c (slot_at size place) ≢ 1) ⊎ ((segment : Segment) × All IsGroup segment.groups × HoldsSegment (slot_at size place) size segment c)

-- The first slot by place that isn't breaks the rule of its groups, at this offset of the device.
pub record GroupBreaks (slots size at : ℕ) (c : List ℕ) : Type 0 where
  pub slot : ℕ
  pub within : slot < slots
  pub breaks : BreaksAt (slot_at size slot) size at c
  pub before : (place : ℕ) → place < slot → IsWhole size place c

-- No slot is open, which counts as a fault of slot 0; or this is the offset of the first open slot that isn't in order.
abbrev pub OrderBreaks : ℕ → ℕ → List OpenSlot → Type 0
OrderBreaks at size [] = at ≡ slot_at size 0
OrderBreaks at size (slot ∷ slots) = (place : ℕ) × (at ≡ slot_at size place) × FirstAtFault (slot ∷ slots) slot.segment.ordinal slot.segment.first place

-- ---- and last that of the known numbers

-- at least one slot is open, and all open ones are in order
pub record IsChain (opened : List OpenSlot) : Type 0 where
  pub some : 0 < length opened
  pub all : AreInOrder opened (ordinal_of opened 0) (first_of opened 0)

-- the number after the last entry of these slots
abbrev pub end_in : List OpenSlot → ℕ
end_in opened = first_of opened 0 + length (entries_in opened)

-- The cursor lies from the number of the first entry to the end, and the stretches are apart above it and end at or
-- below the end.
pub record AreAmong (cursor : ℕ) (known : List Stretch) (opened : List OpenSlot) : Type 0 where
  pub from_first : first_of opened 0 ≤ cursor
  pub to_end : cursor ≤ end_in opened
  pub apart : AreApart cursor known
  pub known_to_end : EndBy (end_in opened) known

-- ---- in this order

-- the open slots aren't in order
abbrev pub SlotsBreak : ℕ → List ℕ → Type 0
SlotsBreak at c = (opened : List OpenSlot) × AreOpenSlots (slots_told c) (size_told c) c opened × OrderBreaks at (size_told c) opened

-- they are, and the known numbers in the cell at this offset aren't among those of their entries
abbrev pub KnownBreak : ℕ → List ℕ → Type 0
KnownBreak at c = (opened : List OpenSlot) × AreOpenSlots (slots_told c) (size_told c) c opened × IsChain opened × (AreAmong (cursor_at at c) (known_at at c) opened → ⊥)

-- A rule is broken, and this is the place of the first one that is: an offset on the device.
abbrev pub Breaks : ℕ → List ℕ → Type 0
Breaks at c =
    ((at ≡ 0) × (IsNamed c → ⊥))
    ⊎ ((at ≡ 8) × IsNamed c × (IsMeasured c → ⊥))
    ⊎ (IsNamed c × IsMeasured c × CellsBreak at c)
    ⊎ ((cell : ℕ) × HasHead cell c × GroupBreaks (slots_told c) (size_told c) at c)
    ⊎ ((cell : ℕ) × HasHead cell c × SlotsBreak at c)
    ⊎ (HasHead at c × KnownBreak at c)
