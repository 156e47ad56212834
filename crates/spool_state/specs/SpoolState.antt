-- What a spool is, with no bytes.
use Rattle.std.specs.Prelude.{◌≡◌, ◌≢◌, ℕ, ◌+◌, ◌-◌, ◌<◌, ◌≤◌, List, [], ◌∷◌, ◌++◌, length, take, drop, All}
use Rattle.std.specs.List.{flat_map}
use Rattle.known_numbers.specs.declared.stretch.Stretch.{Stretch}
use Rattle.known_numbers.specs.Numbers.{Numbers, IsKnown, EndBy, IsSound as IsSoundKnown}
use Rattle.event_form.specs.declared.event.Entry.{Entry}
use Rattle.spool_state.specs.Layout.{slot_loss, most_slots, least_size, most_size, most_run, most_number}
use Rattle.spool_state.specs.Segment.{IsGroup, Segment, entries_of, segment_text}

-- a slot whose gate is open: its place among the slots, from 0, and the segment in it
pub record OpenSlot : Type 0 where
  pub place : ℕ
  pub segment : Segment

-- The open slots stand in order of ordinal, and the active one is the last. All other slots are closed.
pub record SpoolState : Type 0 where
  pub slots : ℕ
  -- bytes of a slot
  pub size : ℕ
  -- how often the spool was opened for storing
  pub run : ℕ
  -- entries with lower numbers are known as confirmed
  pub cursor : ℕ
  -- and those in these stretches above it
  pub known : List Stretch
  -- the ordinal of the register, which rises with each change of run, cursor or stretches
  pub ordinal : ℕ
  pub older : List OpenSlot
  pub active : OpenSlot

abbrev pub entries_in : List OpenSlot → List Entry
entries_in slots = flat_map (λ slot. entries_of slot.segment) slots

-- all entries in order
abbrev pub list : SpoolState → List Entry
list s = entries_in s.older ++ entries_of s.active.segment

-- the first number and the first ordinal of some slots, or these where there is none
abbrev pub first_of : List OpenSlot → ℕ → ℕ
first_of [] first = first
first_of (slot ∷ slots) first = slot.segment.first

abbrev pub ordinal_of : List OpenSlot → ℕ → ℕ
ordinal_of [] ordinal = ordinal
ordinal_of (slot ∷ slots) ordinal = slot.segment.ordinal

-- the number of the first entry, and the number after the last
abbrev pub base : SpoolState → ℕ
base s = first_of s.older s.active.segment.first

abbrev pub end : SpoolState → ℕ
end s = base s + length (list s)

-- the known numbers
abbrev pub numbers_of : SpoolState → Numbers
numbers_of s = record { cursor = s.cursor; stretches = s.known }

abbrev pub IsKnownIn : SpoolState → ℕ → Type 0
IsKnownIn s number = IsKnown (numbers_of s) number

-- the entry of that number, or nothing
abbrev pub entry_at : SpoolState → ℕ → List Entry
entry_at s number = take 1 (drop (number - base s) (list s))

-- the bytes that a group may need in the active slot, and in an empty one
abbrev pub room : SpoolState → ℕ
room s = s.size - length (segment_text s.active.segment) - 1

abbrev pub most_room : SpoolState → ℕ
most_room s = s.size - slot_loss

-- The later state keeps what the earlier had: nothing falls, what is known stays known, and an entry that is gone
-- is below the cursor.
pub record Follows (s later : SpoolState) : Type 0 where
  pub run : s.run ≤ later.run
  pub cursor : s.cursor ≤ later.cursor
  pub known : (number : ℕ) → IsKnownIn s number → IsKnownIn later number
  pub base_rises : base s ≤ base later
  pub end_rises : end s ≤ end later
  pub kept : (number : ℕ) → base later ≤ number → number < end s → entry_at later number ≡ entry_at s number
  pub confirmed : base later ≤ later.cursor

-- a slot's ordinal is at most its first number plus 1
abbrev pub HasEarlyOrdinal : OpenSlot → Type 0
HasEarlyOrdinal slot = slot.segment.ordinal ≤ slot.segment.first + 1

-- Up to a slot after them with this ordinal and this first number, ordinals are consecutive, numbers go
-- on without a gap, and no slot is empty.
abbrev pub AreConsecutive : List OpenSlot → ℕ → ℕ → Type 0
AreConsecutive [] ordinal first = Unit
AreConsecutive (slot ∷ slots) ordinal first =
    (ordinal_of slots ordinal ≡ slot.segment.ordinal + 1)
    × (first_of slots first ≡ slot.segment.first + length (entries_of slot.segment))
    × (0 < length (entries_of slot.segment))
    × AreConsecutive slots ordinal first

-- none of these slots has that place
abbrev pub AreElsewhere : ℕ → List OpenSlot → Type 0
AreElsewhere place slots = All (λ slot. slot.place ≢ place) slots

abbrev pub AreApart : List OpenSlot → Type 0
AreApart [] = Unit
AreApart (slot ∷ slots) = AreElsewhere slot.place slots × AreApart slots

-- a slot of a spool of so many slots
pub record IsOpenSlot (slots : ℕ) (slot : OpenSlot) : Type 0 where
  pub place : slot.place < slots
  pub groups : All IsGroup slot.segment.groups
  pub early : HasEarlyOrdinal slot

-- the rules of a spool
pub record IsSound (s : SpoolState) : Type 0 where
  pub some : 1 ≤ s.slots
  pub few : s.slots ≤ most_slots
  pub large : least_size ≤ s.size
  pub small : s.size ≤ most_size
  pub run : s.run ≤ most_run
  pub ordinal : s.ordinal ≤ most_number
  pub older : All (IsOpenSlot s.slots) s.older
  pub active : IsOpenSlot s.slots s.active
  pub apart : AreApart s.older
  pub apart_active : AreElsewhere s.active.place s.older
  pub consecutive : AreConsecutive s.older s.active.segment.ordinal s.active.segment.first
  pub ends : end s ≤ most_number
  pub from_base : base s ≤ s.cursor
  pub to_end : s.cursor ≤ end s
  -- the stretches are apart above the cursor, and few enough
  pub known : IsSoundKnown (numbers_of s)
  pub known_to_end : EndBy (end s) s.known
