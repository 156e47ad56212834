-- The bytes that stand for a spool.
use Rattle.std.specs.Prelude.{◌≡◌, ◌≢◌, ℕ, ◌+◌, ◌*◌, ◌<◌, List, [], ◌∷◌, ◌++◌, length, slice_index, All}
use Rattle.std.specs.Int.{to_be_bytes}
use mir.Syntax.{w32, w64}
use Rattle.foundation.specs.Bytes.{part}
use Rattle.spool_state.specs.Segment.{Segment, segment_text}
use Rattle.spool_state.specs.SpoolState.{OpenSlot, SpoolState, AreElsewhere, IsSound}
use Rattle.spool_state.specs.Layout.{header_length, first_slot}
use Rattle.spool_state.specs.Cells.{RegisterHas}

-- where a slot begins
abbrev pub slot_at : ℕ → ℕ → ℕ
slot_at size place = first_slot + place * size

-- `RLBSPOOL`
abbrev pub magic : List ℕ
magic = 82 ∷ 76 ∷ 66 ∷ 83 ∷ 80 ∷ 79 ∷ 79 ∷ 76 ∷ []

-- the first bytes: the magic, the number of slots and their size
unfoldable pub header_text : ℕ → ℕ → List ℕ
header_text slots size = magic ++ to_be_bytes w32 slots ++ to_be_bytes w64 size

-- The slot's bytes begin with the segment's, and after them stands a gate that isn't open.
pub record HoldsSegment (at size : ℕ) (segment : Segment) (c : List ℕ) : Type 0 where
  pub rest : List ℕ
  pub text : part at size c ≡ segment_text segment ++ rest
  pub more : 0 < length rest
  pub closed : slice_index rest 0 ≢ 1

abbrev pub HoldsSlot : ℕ → OpenSlot → List ℕ → Type 0
HoldsSlot size slot c = HoldsSegment (slot_at size slot.place) size slot.segment c

-- the slots that the state doesn't name are closed
abbrev pub OthersAreClosed : SpoolState → List ℕ → Type 0
OthersAreClosed s c = (place : ℕ) → place < s.slots → s.active.place ≢ place → AreElsewhere place s.older → slice_index c (slot_at s.size place) ≢ 1

-- the bytes of the whole device stand for the state
pub record StandsFor (s : SpoolState) (c : List ℕ) : Type 0 where
  pub long : length c ≡ slot_at s.size s.slots
  pub header : part 0 header_length c ≡ header_text s.slots s.size
  pub register : RegisterHas s.ordinal s.run s.cursor s.known c
  pub older : All (λ slot. HoldsSlot s.size slot c) s.older
  pub active : HoldsSlot s.size s.active c
  pub closed : OthersAreClosed s c
  pub sound : IsSound s
