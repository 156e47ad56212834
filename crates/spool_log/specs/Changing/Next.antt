-- The next segment of a spool.
use Rattle.std.specs.Prelude.{◌≡◌, ℕ, ◌+◌, ◌<◌, length}
use Rattle.spool_state.specs.Segment.{entries_of}
use Rattle.spool_state.specs.SpoolState.{SpoolState, end}
use Rattle.spool_state.specs.Free.{IsClosed}
use Rattle.spool_state.specs.Image.{slot_at}
use Rattle.spool_slots.specs.declared.slot.Slot.{Slot}
use Rattle.spool_log.specs.declared.changing.begin.Head.{Head}

-- the numbers of a segment in the slot there that goes on after the active one
pub record IsHead (size : ℕ) (active : Slot) (at : ℕ) (head : Head) : Type 0 where
  pub at_is : head.at ≡ at
  pub size_is : head.size ≡ size
  pub ordinal_is : head.ordinal ≡ active.ordinal + 1
  pub first_is : head.first ≡ active.first + active.count

-- The slot of that place is closed, and these are the numbers of the next segment of the state there, whose active
-- slot has an entry.
pub record IsNext (s : SpoolState) (place : ℕ) (head : Head) : Type 0 where
  pub closed : IsClosed s place
  pub at_is : head.at ≡ slot_at s.size place
  pub size_is : head.size ≡ s.size
  pub ordinal_is : head.ordinal ≡ s.active.segment.ordinal + 1
  pub first_is : head.first ≡ end s
  pub some : 0 < length (entries_of s.active.segment)
