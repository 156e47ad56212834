-- How a spool changes.
use Rattle.std.specs.Prelude.{ℕ, ◌+◌, List, [], ◌∷◌, ◌++◌}
use Rattle.known_numbers.specs.declared.stretch.Stretch.{Stretch}
use Rattle.event_form.specs.declared.event.Entry.{Entry}
use Rattle.spool_state.specs.Segment.{empty_segment, with_group}
use Rattle.spool_state.specs.SpoolState.{OpenSlot, SpoolState, end}

abbrev pub slot_with : OpenSlot → List Entry → OpenSlot
slot_with slot group = record { place = slot.place; segment = with_group slot.segment group }

-- a group more in the active slot
abbrev pub added : SpoolState → List Entry → SpoolState
added s group = record { slots = s.slots; size = s.size; run = s.run; cursor = s.cursor; known = s.known; ordinal = s.ordinal; older = s.older; active = slot_with s.active group }

-- an empty segment begun in the slot there, which is the active one from then on
abbrev pub begun : SpoolState → ℕ → SpoolState
begun s place = record {
  slots = s.slots;
  size = s.size;
  run = s.run;
  cursor = s.cursor;
  known = s.known;
  ordinal = s.ordinal;
  older = s.older ++ s.active ∷ [];
  active = record { place = place; segment = empty_segment (s.active.segment.ordinal + 1) (end s) };
}

-- the first slot shut, and these left
abbrev pub shut : SpoolState → List OpenSlot → SpoolState
shut s rest = record { slots = s.slots; size = s.size; run = s.run; cursor = s.cursor; known = s.known; ordinal = s.ordinal; older = rest; active = s.active }

-- the register written, with another run, cursor or stretches
abbrev pub registered : SpoolState → ℕ → ℕ → List Stretch → SpoolState
registered s run cursor known = record { slots = s.slots; size = s.size; run = run; cursor = cursor; known = known; ordinal = s.ordinal + 1; older = s.older; active = s.active }
