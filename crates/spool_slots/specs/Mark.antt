-- Where an entry of a segment begins in its slot.
use Rattle.std.specs.Prelude.{◌≡◌, ◌⊎◌, ◌+◌, ◌<◌, List, ◌∷◌, ◌++◌, length, Result, MatchResult}
use Rattle.event_form.specs.declared.event.Entry.{Entry}
use Rattle.event_form.specs.declared.reading.Took.{Took}
use Rattle.event_form.specs.Entry.{size_of}
use Rattle.spool_state.specs.Layout.{group_head}
use Rattle.spool_state.specs.Segment.{Segment, entries_of, entries_text, segment_text}
use Rattle.spool_slots.specs.declared.fault.ScanFault.{ScanFault}
use Rattle.spool_slots.specs.declared.group.GroupHead.{GroupHead}
use Rattle.spool_slots.specs.declared.mark.Mark.{Mark}
use Rattle.spool_slots.specs.Fault.{IsNotBroken}

-- the segment with these groups alone
abbrev pub with_groups : Segment → List (List Entry) → Segment
with_groups segment groups = record { ordinal = segment.ordinal; first = segment.first; groups = groups }

-- The mark stands at the gate after some of the segment's groups, and its entry is the next after theirs.
pub record IsAtGate (segment : Segment) (mark : Mark) : Type 0 where
  pub before : List (List Entry)
  pub behind : List (List Entry)
  pub whole : segment.groups ≡ before ++ behind
  pub none_left : mark.rest ≡ 0
  pub place : mark.at ≡ length (segment_text (with_groups segment before))
  pub counted : mark.number ≡ segment.first + length (entries_of (with_groups segment before))

-- The mark stands in a group, at the first of the entries that are left of it.
pub record IsInGroup (segment : Segment) (mark : Mark) : Type 0 where
  pub before : List (List Entry)
  pub passed : List Entry
  pub left : List Entry
  pub behind : List (List Entry)
  pub whole : segment.groups ≡ before ++ (passed ++ left) ∷ behind
  pub some : 0 < length left
  pub rest_is : mark.rest ≡ length left
  pub place : mark.at ≡ length (segment_text (with_groups segment before)) + group_head + length (entries_text passed)
  pub counted : mark.number ≡ segment.first + length (entries_of (with_groups segment before)) + length passed

-- the mark is one of the segment
abbrev pub IsMark : Segment → Mark → Type 0
IsMark segment mark = IsAtGate segment mark ⊎ IsInGroup segment mark

-- The segment's entry of the first mark's number, and the mark of the next one.
pub record IsNext (segment : Segment) (mark : Mark) (entry : Entry) (next : Mark) : Type 0 where
  pub before : List Entry
  pub behind : List Entry
  pub whole : entries_of segment ≡ before ++ entry ∷ behind
  pub counted : mark.number ≡ segment.first + length before
  pub goes_on : IsMark segment next

-- At the mark a group of the segment begins, and this is its head.
pub record IsGroupAt (segment : Segment) (mark : Mark) (head : GroupHead) : Type 0 where
  pub here : IsAtGate segment mark
  pub group : List Entry
  pub after : List (List Entry)
  pub is : here.behind ≡ group ∷ after
  pub some : 0 < length group
  pub size_is : head.size ≡ length (entries_text group)
  pub count_is : head.count ≡ length group

-- The head of the mark's group was found; or there was a fault or no memory.
abbrev pub FindsGroup : Segment → Mark → Result GroupHead ScanFault → Type 0
FindsGroup segment mark result = MatchResult result (IsGroupAt segment mark) IsNotBroken

-- From a mark of the segment the mark of its entry was found, after the head of a group; or there was a fault or no memory.
abbrev pub IsEntered : Segment → Mark → Result Mark ScanFault → Type 0
IsEntered segment mark result = MatchResult result (λ entered. IsInGroup segment entered × (entered.number ≡ mark.number)) IsNotBroken

-- The entry was read; or there was a fault or no memory.
abbrev pub IsReading : Entry → Result Took ScanFault → Type 0
IsReading e result = MatchResult result (λ took. (took.entry ≡ e) × (took.used ≡ size_of e)) IsNotBroken

-- The next entry was read; or there was a fault or no memory.
abbrev pub IsNextOf : Segment → Mark → Result (Entry × Mark) ScanFault → Type 0
IsNextOf segment mark result = MatchResult result (λ next. IsNext segment mark next.0 next.1) IsNotBroken

-- Another mark of the segment was found; or there was a fault.
abbrev pub IsPassed : Segment → Result Mark ScanFault → Type 0
IsPassed segment result = MatchResult result (IsMark segment) IsNotBroken
