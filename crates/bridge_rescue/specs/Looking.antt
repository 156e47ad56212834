-- What memory knows of the slots of a device.
use Rattle.std.specs.Prelude.{◌≡◌, ◌⊎◌, ℕ, ◌+◌, ◌^◌, ◌<◌, ◌≤◌, Bool, true, false, List, [], ◌∷◌, length, vec_capacity, All, Option, None, Some}
use Rattle.foundation.specs.Bytes.{part}
use Rattle.spool_state.specs.Layout.{most_number}
use Rattle.spool_state.specs.Segment.{IsGroup, Segment, entries_of, segment_text}
use Rattle.spool_state.specs.SpoolState.{OpenSlot}
use Rattle.spool_state.specs.Image.{slot_at, HoldsSegment}
use Rattle.spool_slots.specs.declared.slot.Slot.{Slot}
use Rattle.spool_slots.specs.Scan.{KnowsSome}
use Rattle.spool_slots.specs.declared.fault.ScanFault.{ScanFault}
use Rattle.spool_slots.specs.declared.fault.ScanFault.TheVariants as Scan
use Rattle.notes.specs.declared.note.Note.{Note}
use Rattle.notes.specs.declared.note.Note.TheVariants as Notes
use Rattle.bridge_rescue.specs.declared.fault.Why.{Why}
use Rattle.bridge_rescue.specs.declared.fault.Why.TheVariants.{Broken, Unheld, TooHigh, Unread}
use Rattle.bridge_rescue.specs.declared.fault.SlotFault.{SlotFault}
use Rattle.bridge_rescue.specs.declared.found.Found.{Found}
use Rattle.bridge_rescue.specs.declared.looking.Seen.{Seen}
use Rattle.bridge_rescue.specs.declared.looking.Seen.TheVariants.{Closed, Sound, Front, AtFault}
use Rattle.bridge_rescue.specs.declared.looking.Looked.{Looked}
use Rattle.bridge_rescue.specs.Faults.{BreaksAfter, IsWhy, IsBefore, OfBroken, broken_in}
use Rattle.bridge_rescue.specs.Slots.{IsClosed, AreJudged}

-- the slot lies on a disk of this length, and its numbers end in time
pub record IsReadableSlot (len : ℕ) (slot : Slot) : Type 0 where
  pub inside : slot.at + slot.size ≤ len
  pub ends : slot.first + slot.count ≤ most_number

abbrev pub AreReadable : ℕ → List Found → Type 0
AreReadable len founds = All (λ found. IsReadableSlot len found.slot) founds

abbrev pub IsReadable : ℕ → Seen → Type 0
IsReadable len Closed = Unit {0}
IsReadable len (Sound slot) = IsReadableSlot len slot
IsReadable len (Front slot fault) = IsReadableSlot len slot
IsReadable len (AtFault fault) = Unit {0}

-- a read of it failed
abbrev pub IsUnreadSeen : Seen → Type 0
IsUnreadSeen Closed = ⊥
IsUnreadSeen (Sound slot) = ⊥
IsUnreadSeen (Front slot fault) = fault.why ≡ Unread
IsUnreadSeen (AtFault fault) = fault.why ≡ Unread

abbrev pub fault_of : ℕ → ℕ → Why → SlotFault
fault_of place at why = record { place = place; at = at; why = why }

-- It is sound where its numbers end in time, and else too high, from its begin on.
abbrev pub IsByNumbers : Slot → ℕ → Seen → Type 0
IsByNumbers slot place seen =
    ((slot.first + slot.count ≤ most_number) × (seen ≡ Sound slot))
    ⊎ ((most_number < slot.first + slot.count) × (seen ≡ AtFault (fault_of place slot.at TooHigh)))

-- What stands before the gate at fault at this offset was not found, or it was, and its numbers end in time, or they are too high.
abbrev pub IsByFront : Option Slot → ℕ → ℕ → Seen → Type 0
IsByFront None place at seen = seen ≡ AtFault (fault_of place at Unheld)
IsByFront (Some slot) place at seen =
    ((slot.first + slot.count ≤ most_number) × (seen ≡ Front slot (fault_of place at (Broken slot.count))))
    ⊎ ((most_number < slot.first + slot.count) × (seen ≡ AtFault (fault_of place slot.at TooHigh)))

-- the slot holds the segment, or where it isn't whole its bytes up to its gate are the segment's
abbrev pub Stands : Bool → Slot → Segment → List ℕ → Type 0
Stands true slot segment c = HoldsSegment slot.at slot.size segment c
Stands false slot segment c = part slot.at slot.gate c ≡ segment_text segment

-- Memory has the numbers of a segment that stands on the device.
pub record KnowsFound (found : Found) (segment : Segment) (c : List ℕ) : Type 0 where
  pub stands : Stands found.is_whole found.slot segment c
  pub sound : All IsGroup segment.groups
  pub ordinal : found.slot.ordinal ≡ segment.ordinal
  pub first : found.slot.first ≡ segment.first
  pub gate : found.slot.gate ≡ length (segment_text segment)
  pub count : found.slot.count ≡ length (entries_of segment)

abbrev pub whole : Slot → Found
whole slot = record { slot = slot; is_whole = true }

abbrev pub front : Slot → Found
front slot = record { slot = slot; is_whole = false }

-- the same numbers, but for where it begins and how long it is
pub record IsSameBut (slot other : Slot) (at size : ℕ) : Type 0 where
  pub at_is : other.at ≡ at
  pub size_is : other.size ≡ size
  pub ordinal : other.ordinal ≡ slot.ordinal
  pub first : other.first ≡ slot.first
  pub gate : other.gate ≡ slot.gate
  pub count : other.count ≡ slot.count

-- Memory has the numbers of what stands before the gate at fault, at this offset, of the slot that begins at another.
pub record IsFrontOf (begin size at : ℕ) (c : List ℕ) (slot : Slot) : Type 0 where
  pub segment : Segment
  pub breaks : BreaksAfter begin size at c segment
  pub known : KnowsFound (front slot) segment c
  pub ordinal : segment.ordinal < 2 ^ 64
  pub first : segment.first < 2 ^ 64

-- Memory knows the sound slot of that place, of this size, by its numbers.
pub record IsKnownSound (size place : ℕ) (c : List ℕ) (slot : Slot) : Type 0 where
  pub at_is : slot.at ≡ slot_at size place
  pub size_is : slot.size ≡ size
  pub inside : slot_at size place + size ≤ length c
  pub ends : slot.first + slot.count ≤ most_number
  pub knows : KnowsSome slot c

-- It knows what stands before the fault of that slot.
pub record IsKnownFront (size place : ℕ) (c : List ℕ) (slot : Slot) (fault : SlotFault) : Type 0 where
  pub segment : Segment
  pub known : KnowsFound (front slot) segment c
  pub here : fault.place ≡ place
  pub before : IsBefore size c fault (record { place = place; segment = segment })

-- This is wrong with the slot of that place, and nothing of it is found.
pub record IsLost (size place : ℕ) (c : List ℕ) (fault : SlotFault) : Type 0 where
  pub here : fault.place ≡ place
  pub is : IsWhy fault.why (slot_at size place) size c fault.at
  pub lost : OfBroken fault.why ⊥

-- the slot of that place is what was seen
abbrev pub IsSeen : ℕ → ℕ → List ℕ → Seen → Type 0
IsSeen size place c Closed = IsClosed size place c
IsSeen size place c (Sound slot) = IsKnownSound size place c slot
IsSeen size place c (Front slot fault) = IsKnownFront size place c slot fault
IsSeen size place c (AtFault fault) = IsLost size place c fault

-- So many slots have room, of which these were looked at.
pub record HasRoom (slots places : ℕ) (looked : Looked) : Type 0 where
  pub room_found : slots ≤ vec_capacity looked.found
  pub room_faults : slots ≤ vec_capacity looked.faults
  pub few_found : length looked.found.items ≤ places
  pub few_faults : length looked.faults.items ≤ places
  pub few_sound : looked.sound ≤ places

-- one by one, in the same order, memory knows what was found
abbrev pub AreKnown : List OpenSlot → List Found → List ℕ → Type 0
AreKnown [] [] c = Unit
AreKnown [] (found ∷ founds) c = ⊥
AreKnown (one ∷ more) [] c = ⊥
AreKnown (one ∷ more) (found ∷ founds) c = KnowsFound found one.segment c × AreKnown more founds c

-- Memory has what was found of the first so many slots, the faults of those that aren't sound, and how many are.
pub record KnowsAll (slots size : ℕ) (c : List ℕ) (looked : Looked) : Type 0 where
  pub found : List OpenSlot
  pub known : AreKnown found looked.found.items c
  pub judged : AreJudged slots size c found looked.faults.items
  pub counted : looked.sound + broken_in looked.faults.items ≡ length found

-- the note of the same name, where a slot isn't read again
abbrev pub note_of_scan : ScanFault → Note
note_of_scan (Scan.NotSpool at) = Notes.NotSpool at
note_of_scan Scan.DiskFault = Notes.DiskFault
note_of_scan Scan.NoMemory = Notes.NoMemory
