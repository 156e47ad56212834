-- Where a slot breaks the rule of its groups: each ends with its closing gate inside the slot, and holds
-- exactly its count of entries, at least one.
use Rattle.std.specs.Prelude.{◌≡◌, ℕ, ◌+◌, ◌<◌, List, ◌∷◌, ◌++◌, length, slice_index, All}
use Rattle.foundation.specs.Bytes.{part}
use Rattle.event_form.specs.declared.event.Entry.{Entry}
use Rattle.spool_state.specs.Segment.{IsGroup, Segment, group_text, segment_text}

-- The bytes are an open gate, the group, and at least one byte more: the group's closing gate.
pub record BeginsGroup (group : List Entry) (bytes : List ℕ) : Type 0 where
  pub sound : IsGroup group
  pub behind : List ℕ
  pub text : bytes ≡ 1 ∷ group_text group ++ behind
  pub closing : 0 < length behind

-- Up to this place of the device the slot's bytes are a segment of sound groups. There a gate is open, and no group begins.
pub record BreaksAt (at size place : ℕ) (c : List ℕ) : Type 0 where
  pub before : Segment
  pub sound : All IsGroup before.groups
  pub rest : List ℕ
  pub text : part at size c ≡ segment_text before ++ rest
  pub here : place ≡ at + length (segment_text before)
  pub opens : slice_index rest 0 ≡ 1
  pub no_group : (group : List Entry) → BeginsGroup group rest → ⊥
