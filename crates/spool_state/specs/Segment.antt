-- A segment: the groups of entries that one slot holds, and their bytes.
use Rattle.std.specs.Prelude.{ℕ, ◌+◌, ◌<◌, List, [], ◌∷◌, ◌++◌, length, All}
use Rattle.std.specs.List.{flat_map}
use Rattle.std.specs.Int.{to_be_bytes}
use mir.Syntax.{w32, w64}
use Rattle.event_form.specs.declared.event.Entry.{Entry}
use Rattle.event_form.specs.Entry.{IsEntry, entry_text}
use Rattle.spool_state.specs.Layout.{group_head}

-- at least one entry, each within its limits; what was stored by one call
pub record IsGroup (group : List Entry) : Type 0 where
  pub some : 0 < length group
  pub entries : All IsEntry group

-- the entries of a segment have numbers that go on from the first
pub record Segment : Type 0 where
  pub ordinal : ℕ
  pub first : ℕ
  pub groups : List (List Entry)

abbrev pub empty_segment : ℕ → ℕ → Segment
empty_segment ordinal first = record { ordinal = ordinal; first = first; groups = [] }

-- the same segment with one group more
abbrev pub with_group : Segment → List Entry → Segment
with_group segment group = record { ordinal = segment.ordinal; first = segment.first; groups = segment.groups ++ group ∷ [] }

-- its entries in order
abbrev pub entries_of : Segment → List Entry
entries_of segment = flat_map (λ group. group) segment.groups

-- the entries' texts one after another
abbrev pub entries_text : List Entry → List ℕ
entries_text entries = flat_map entry_text entries

-- what stands after a group's gate: the length of the entries' bytes, how many entries they are, and those bytes
unfoldable pub group_text : List Entry → List ℕ
group_text group = to_be_bytes w32 (length (entries_text group)) ++ to_be_bytes w32 (length group) ++ entries_text group

-- how many bytes a group takes of a slot's room: its length, its count and the closed gate after it, which are as many
-- as a head has, and its entries
abbrev pub need_of : List Entry → ℕ
need_of group = group_head + length (entries_text group)

-- the open gate of a slot, the ordinal and the first number
unfoldable pub head_text : ℕ → ℕ → List ℕ
head_text ordinal first = 1 ∷ to_be_bytes w64 ordinal ++ to_be_bytes w64 first

-- each group after an open gate
abbrev pub groups_text : List (List Entry) → List ℕ
groups_text groups = flat_map (λ group. 1 ∷ group_text group) groups

abbrev pub segment_text : Segment → List ℕ
segment_text segment = head_text segment.ordinal segment.first ++ groups_text segment.groups
