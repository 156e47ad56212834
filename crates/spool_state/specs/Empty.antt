-- The spool that has no entry, and its bytes.
use Rattle.std.specs.Prelude.{◌≡◌, ◌≢◌, ℕ, ◌+◌, ◌<◌, ◌≤◌, List, [], ◌∷◌, ◌++◌, slice_index}
use Rattle.std.specs.Int.{to_be_bytes}
use mir.Syntax.{w32, w64}
use Rattle.foundation.specs.Bytes.{part}
use Rattle.spool_state.specs.Segment.{empty_segment, head_text}
use Rattle.spool_state.specs.SpoolState.{SpoolState}
use Rattle.spool_state.specs.Layout.{first_cell, second_cell, first_slot, cell_head, content_length, slot_loss}
use Rattle.spool_state.specs.Cells.{content_text, cell_text}
use Rattle.spool_state.specs.Image.{slot_at}

-- so many slots of this size, of which the first one is open, with the first ordinal and no group
abbrev pub empty_state : ℕ → ℕ → SpoolState
empty_state slots size = record {
  slots = slots;
  size = size;
  run = 0;
  cursor = 0;
  known = [];
  ordinal = 1;
  older = [];
  active = record { place = 0; segment = empty_segment 1 0 };
}

-- The numbers of its header, its cells, and the empty segment in its first slot.
pub record IsFront (slots size : ℕ) (c : List ℕ) : Type 0 where
  pub numbers : part 8 12 c ≡ to_be_bytes w32 slots ++ to_be_bytes w64 size
  pub cell : part first_cell (cell_head + content_length) c ≡ cell_text 1 (content_text 0 0 [])
  pub other : slice_index c second_cell ≢ 1
  pub slot : part first_slot slot_loss c ≡ head_text 1 0 ++ 0 ∷ []

-- All its bytes that matter, but for the magic: the other slots are closed.
pub record IsBody (slots size : ℕ) (c : List ℕ) : Type 0 where
  pub front : IsFront slots size c
  pub others : (place : ℕ) → 1 ≤ place → place < slots → slice_index c (slot_at size place) ≢ 1
