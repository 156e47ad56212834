-- The entries that were found, as the target gets them.
use Rattle.std.specs.Prelude.{ℕ, List, [], ◌∷◌, ◌++◌}
use Rattle.event_form.specs.declared.event.Entry.{Entry}
use Rattle.spool_state.specs.Segment.{Segment, entries_of}
use Rattle.spool_state.specs.SpoolState.{OpenSlot}
use Rattle.spool_state.specs.Left.{NumberedEntry, numbered}
use Rattle.spool_move.specs.Moved.{all_moved}

-- entries with consecutive numbers from this one on, each as `move` moves it with this tag
abbrev pub told_from : ℕ → ℕ → List Entry → List Entry
told_from tag first entries = all_moved tag (numbered first entries)

-- those of a segment, which are numbered from its first number on
abbrev pub told_of : ℕ → Segment → List Entry
told_of tag segment = told_from tag segment.first (entries_of segment)

-- The entries that were found of these slots, in order, as the target gets them: of the connection of the tag, with their numbers as
-- indexes, and the same events.
abbrev pub told : ℕ → List OpenSlot → List Entry
told tag [] = []
told tag (slot ∷ more) = told_of tag slot.segment ++ told tag more
