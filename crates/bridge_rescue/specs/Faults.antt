-- What is wrong with the slots that aren't sound.
use Rattle.std.specs.Prelude.{◌≡◌, ◌≢◌, ◌⊎◌, ℕ, ◌+◌, ◌^◌, ◌<◌, ◌≤◌, List, [], ◌∷◌, length, All}
use Rattle.spool_state.specs.Layout.{first_slot, most_number}
use Rattle.spool_state.specs.Segment.{IsGroup, Segment, entries_of}
use Rattle.spool_state.specs.SpoolState.{OpenSlot}
use Rattle.spool_state.specs.Image.{slot_at, HoldsSegment}
use Rattle.spool_state.specs.Broken.{BreaksAt}
use Rattle.spool_state.specs.Order.{count_of}
use Rattle.notes.specs.declared.note.Note.{Note}
use Rattle.notes.specs.declared.note.Note.TheVariants.{Fine, NotSpool, DiskFault}
use Rattle.bridge_rescue.specs.declared.fault.Why.{Why}
use Rattle.bridge_rescue.specs.declared.fault.Why.TheVariants.{Cut, Broken, Unheld, TooHigh, Unread}
use Rattle.bridge_rescue.specs.declared.fault.SlotFault.{SlotFault}
use Rattle.bridge_rescue.specs.declared.gaps.Span.{Span}

-- At this place of the device the slot breaks the rule of its groups, and the groups before that are the segment's.
abbrev pub BreaksAfter : ℕ → ℕ → ℕ → List ℕ → Segment → Type 0
BreaksAfter begin size at c segment = (breaks : BreaksAt begin size at c) × (breaks.before ≡ segment)

-- The slot holds a segment of sound groups, or these stand before the first gate at fault, and the number after their last entry is above
-- 2^63.
pub record IsTooHigh (at size : ℕ) (c : List ℕ) : Type 0 where
  pub segment : Segment
  pub stands : HoldsSegment at size segment c ⊎ ((place : ℕ) × BreaksAfter at size place c segment)
  pub groups : All IsGroup segment.groups
  pub high : most_number < segment.first + length (entries_of segment)

-- This is wrong with the slot that begins at an offset of the device, and this is its place. Of a read that failed nothing is known.
abbrev pub IsWhy : Why → ℕ → ℕ → List ℕ → ℕ → Type 0
IsWhy Cut begin size c at = (length c < begin + size) × (at ≡ length c)
IsWhy (Broken before) begin size c at = BreaksAt begin size at c
IsWhy Unheld begin size c at = BreaksAt begin size at c
IsWhy TooHigh begin size c at = IsTooHigh begin size c × (at ≡ begin)
IsWhy Unread begin size c at = at ≡ begin

-- the slot of that place is one of so many slots of this size, and this is wrong with it
pub record IsFault (slots size : ℕ) (c : List ℕ) (fault : SlotFault) : Type 0 where
  pub place : fault.place < slots
  pub is : IsWhy fault.why (slot_at size fault.place) size c fault.at

-- The groups before the fault of a slot that is broken: they are all that stand whole there, the fault tells how many entries they have, and
-- the number after the last one is at most 2^63.
pub record IsBefore (size : ℕ) (c : List ℕ) (fault : SlotFault) (slot : OpenSlot) : Type 0 where
  pub place : slot.place ≡ fault.place
  pub inside : slot_at size slot.place + size ≤ length c
  pub breaks : BreaksAfter (slot_at size slot.place) size fault.at c slot.segment
  -- an ordinal and a first number have eight bytes
  pub ordinal : slot.segment.ordinal < 2 ^ 64
  pub first : slot.segment.first < 2 ^ 64
  pub ends : slot.segment.first + count_of slot ≤ most_number
  pub why : fault.why ≡ Broken (count_of slot)

-- what holds where the slot is broken
abbrev pub OfBroken : Why → Type 0 → Type 0
OfBroken (Broken before) P = P
OfBroken why P = Unit {0}

-- how many of these slots are broken
abbrev pub one_if_broken : Why → ℕ
one_if_broken (Broken before) = 1
one_if_broken why = 0

abbrev pub broken_in : List SlotFault → ℕ
broken_in [] = 0
broken_in (fault ∷ more) = one_if_broken fault.why + broken_in more

-- none of them is of the slot of that place
abbrev pub AreNotAt : ℕ → List SlotFault → Type 0
AreNotAt place faults = All (λ fault. fault.place ≢ place) faults

-- a slot was not read
abbrev pub HasUnread : List SlotFault → Type 0
HasUnread [] = ⊥
HasUnread (fault ∷ more) = (fault.why ≡ Unread) ⊎ HasUnread more

-- where no slot is at fault: whether numbers are missing between the slots, and where these begin
abbrev pub IsGapNote : List Span → Note → Type 0
IsGapNote gaps Fine = gaps ≡ []
IsGapNote gaps (NotSpool at) = (0 < length gaps) × (at ≡ first_slot)
IsGapNote gaps note = ⊥

-- the first of the slots at fault is so at this offset
abbrev pub IsFirstFault : List SlotFault → ℕ → Type 0
IsFirstFault [] at = ⊥
IsFirstFault (first ∷ more) at = at ≡ first.at

-- The note of a rescue that printed all entries that were found: whether a slot was not read, or else where the first one is at fault,
-- or where none is, whether numbers are missing between the slots.
abbrev pub IsVerdict : List SlotFault → List Span → Note → Type 0
IsVerdict faults gaps Fine = (faults ≡ []) × (gaps ≡ [])
IsVerdict faults gaps DiskFault = HasUnread faults
IsVerdict faults gaps (NotSpool at) = (HasUnread faults → ⊥) × (IsFirstFault faults at ⊎ ((faults ≡ []) × IsGapNote gaps (NotSpool at)))
IsVerdict faults gaps note = ⊥
