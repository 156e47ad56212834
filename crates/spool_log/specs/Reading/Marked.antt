-- Where the last reading began and ended, as marks of a slot.
use Rattle.std.specs.Prelude.{◌≡◌, ℕ, ◌≤◌, List, [], ◌∷◌, Option, Some, None}
use Rattle.spool_state.specs.Segment.{Segment}
use Rattle.spool_state.specs.SpoolState.{OpenSlot}
use Rattle.spool_slots.specs.Mark.{IsMark}
use Rattle.spool_log.specs.declared.reading.bookmark.Bookmark.{Bookmark}

-- both are marks of the segment
pub record AreMarks (segment : Segment) (bookmark : Bookmark) : Type 0 where
  pub began : IsMark segment bookmark.began
  pub ended : IsMark segment bookmark.ended

-- where the segment has the bookmark's ordinal, those are marks of it
abbrev pub IsMarkOf : Option Bookmark → Segment → Type 0
IsMarkOf None segment = Unit {0}
IsMarkOf (Some bookmark) segment = segment.ordinal ≡ bookmark.ordinal → AreMarks segment bookmark

-- for each of these slots
abbrev pub IsMarkAmong : Option Bookmark → List OpenSlot → Type 0
IsMarkAmong bookmark [] = Unit {0}
IsMarkAmong bookmark (slot ∷ slots) = IsMarkOf bookmark slot.segment × IsMarkAmong bookmark slots

-- its ordinal is this one at most
abbrev pub IsUpto : Option Bookmark → ℕ → Type 0
IsUpto None ordinal = Unit {0}
IsUpto (Some bookmark) ordinal = bookmark.ordinal ≤ ordinal

-- Its marks are marks of the open slot that has its ordinal, if any, and no later slot has that.
pub record IsMarked (older : List OpenSlot) (active : OpenSlot) (bookmark : Option Bookmark) : Type 0 where
  pub older_marked : IsMarkAmong bookmark older
  pub active_marked : IsMarkOf bookmark active.segment
  pub upto : IsUpto bookmark active.segment.ordinal
