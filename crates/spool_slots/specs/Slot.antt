-- What a slot in memory knows of the device, and what the calls of a slot may leave there.
use Rattle.std.specs.Prelude.{◌≡◌, ◌≢◌, ◌⊎◌, ℕ, List, length, slice_index, All}
use Rattle.foundation.specs.Bytes.{SameBut}
use Rattle.edge_disk.specs.Disk.{Moment}
use Rattle.event_form.specs.declared.event.Entry.{Entry}
use Rattle.spool_state.specs.Segment.{IsGroup, Segment, entries_of, segment_text, with_group}
use Rattle.spool_state.specs.Image.{HoldsSegment}
use Rattle.spool_slots.specs.declared.slot.Slot.{Slot}

-- The slot's numbers in memory.
pub record IsSlot (at size ordinal first gate count : ℕ) (slot : Slot) : Type 0 where
  pub at_is : slot.at ≡ at
  pub size_is : slot.size ≡ size
  pub ordinal_is : slot.ordinal ≡ ordinal
  pub first_is : slot.first ≡ first
  pub gate_is : slot.gate ≡ gate
  pub count_is : slot.count ≡ count

-- The device holds the segment in the slot, its groups are sound, and memory has its numbers.
pub record Knows (slot : Slot) (segment : Segment) (c : List ℕ) : Type 0 where
  pub holds : HoldsSegment slot.at slot.size segment c
  pub sound : All IsGroup segment.groups
  pub ordinal : slot.ordinal ≡ segment.ordinal
  pub first : slot.first ≡ segment.first
  pub gate : slot.gate ≡ length (segment_text segment)
  pub count : slot.count ≡ length (entries_of segment)

-- Outside the slot nothing changed, and the slot is closed or holds the segment.
pub record IsClosedOrHolds (at size : ℕ) (segment : Segment) (old c : List ℕ) : Type 0 where
  pub outside : SameBut at size old c
  pub inside : (slice_index c at ≢ 1) ⊎ HoldsSegment at size segment c

-- Outside the slot nothing changed, and the slot holds the segment as it was or with the group more.
pub record HoldsOldOrNew (at size : ℕ) (segment : Segment) (group : List Entry) (old c : List ℕ) : Type 0 where
  pub outside : SameBut at size old c
  pub inside : HoldsSegment at size segment c ⊎ HoldsSegment at size (with_group segment group) c

-- Bytes of a disk on which the slot is closed, and bytes that come after them while the segment is begun there: both come from one image
-- of m.
pub record GoesBegun (m : Moment) (at size : ℕ) (segment : Segment) (now torn : List ℕ) : Type 0 where
  pub from : List ℕ
  pub was : m.image from
  pub before : SameBut at size from now
  pub closed : slice_index now at ≢ 1
  pub after : IsClosedOrHolds at size segment from torn
