-- Takes of several callers that are stored as one group: the group of the first goes on with the entries of the next.
use Rattle.std.specs.Prelude.{◌+◌, ◌<◌, ◌≤◌, List, [], ◌∷◌, ◌++◌, length}
use Rattle.event_form.specs.declared.event.Entry.{Entry}
use Rattle.spool_state.specs.Layout.{most_number}
use Rattle.spool_state.specs.Segment.{Segment, entries_text}
use Rattle.spool_state.specs.SpoolState.{OpenSlot, SpoolState, end, room}

-- the last of the groups goes on with these entries
abbrev pub longer_last : List (List Entry) → List Entry → List (List Entry)
longer_last [] more = []
longer_last (group ∷ []) more = (group ++ more) ∷ []
longer_last (group ∷ next ∷ groups) more = group ∷ longer_last (next ∷ groups) more

abbrev pub longer_segment : Segment → List Entry → Segment
longer_segment segment more = record { ordinal = segment.ordinal; first = segment.first; groups = longer_last segment.groups more }

abbrev pub longer_slot : OpenSlot → List Entry → OpenSlot
longer_slot slot more = record { place = slot.place; segment = longer_segment slot.segment more }

-- the last group of the active slot goes on with these entries
abbrev pub extended : SpoolState → List Entry → SpoolState
extended s more = record { slots = s.slots; size = s.size; run = s.run; cursor = s.cursor; known = s.known; ordinal = s.ordinal; older = s.older; active = longer_slot s.active more }

-- The active slot has a group, and room for these entries in it. They need no head of their own.
pub record FitsOn (s : SpoolState) (more : List Entry) : Type 0 where
  pub group : 0 < length s.active.segment.groups
  pub room : length (entries_text more) ≤ room s
  pub numbers : end s + length more ≤ most_number
