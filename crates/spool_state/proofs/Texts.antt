-- Lengths of texts, and a group more.
use Rattle.std.proofs.Common.{◌≡◌, ℕ, ◌+◌, List, [], ◌∷◌, ◌++◌, length, refl, sym, ◌∙◌, ap, arith, append_assoc, length-append}
use Rattle.std.proofs.lemmas.List.{append-nil}
use Rattle.std.proofs.lemmas.List.Concat.{flat_map-append}
use Rattle.event_form.specs.declared.event.Entry.{Entry}
use Rattle.spool_state.specs.Segment.{Segment, with_group, entries_of, entries_text, group_text, need_of, head_text, groups_text, segment_text}
use Rattle.spool_state.specs.SpoolState.{SpoolState, OpenSlot, entries_in, list, first_of, end, AreConsecutive}
use Rattle.spool_state.specs.Change.{added}

pub length-group_text : (group : List Entry) → length (group_text group) ≡ 8 + length (entries_text group)
unfolding group_text
length-group_text group = omega arith

pub length-head_text : (ordinal first : ℕ) → length (head_text ordinal first) ≡ 17
unfolding head_text
length-head_text ordinal first = refl

-- the bytes after a group's gate with the closed gate after the group
pub length-need : (group : List Entry) → length (group_text group ++ 0 ∷ []) ≡ need_of group
length-need group = omega (arith, length-append (group_text group) (0 ∷ []), length-group_text group)

pub entries_of-with_group : (segment : Segment) (group : List Entry) → entries_of (with_group segment group) ≡ entries_of segment ++ group
entries_of-with_group segment group = flat_map-append (λ g. g) segment.groups (group ∷ []) ∙ ap (λ (l : List Entry). entries_of segment ++ l) (append-nil group)

pub segment_text-with_group : (segment : Segment) (group : List Entry) → segment_text (with_group segment group) ≡ segment_text segment ++ 1 ∷ group_text group
segment_text-with_group segment group =
    let head = head_text segment.ordinal segment.first in
    let more : groups_text (segment.groups ++ group ∷ []) ≡ groups_text segment.groups ++ (1 ∷ group_text group ++ []) = flat_map-append (λ g. 1 ∷ group_text g) segment.groups (group ∷ []) in
    ap (λ (l : List ℕ). head ++ l) more
    ∙ ap (λ (l : List ℕ). head ++ (groups_text segment.groups ++ l)) (append-nil (1 ∷ group_text group))
    ∙ sym (append_assoc head (groups_text segment.groups) (1 ∷ group_text group))

pub length-segment_text-with_group : (segment : Segment) (group : List Entry) → length (segment_text (with_group segment group)) ≡ length (segment_text segment) + need_of group
length-segment_text-with_group segment group = omega (arith, ap length (segment_text-with_group segment group), length-append (segment_text segment) (1 ∷ group_text group), length-group_text group)

pub list-added : (s : SpoolState) (group : List Entry) → list (added s group) ≡ list s ++ group
list-added s group = ap (λ (l : List Entry). entries_in s.older ++ l) (entries_of-with_group s.active.segment group) ∙ sym (append_assoc (entries_in s.older) (entries_of s.active.segment) group)

pub end-added : (s : SpoolState) (group : List Entry) → end (added s group) ≡ end s + length group
end-added s group = omega (arith, ap length (list-added s group), length-append (list s) group)

slots_end : (slots : List OpenSlot) (ordinal first : ℕ) → AreConsecutive slots ordinal first → first_of slots first + length (entries_in slots) ≡ first
slots_end [] ordinal first h = omega arith
slots_end (slot ∷ slots) ordinal first h = omega (arith, slots_end slots ordinal first h.3, h.1, length-append (entries_of slot.segment) (entries_in slots))

-- the end is told by the active segment alone
pub end_active : (s : SpoolState) → AreConsecutive s.older s.active.segment.ordinal s.active.segment.first → end s ≡ s.active.segment.first + length (entries_of s.active.segment)
end_active s h = omega (arith, slots_end s.older s.active.segment.ordinal s.active.segment.first h, length-append (entries_in s.older) (entries_of s.active.segment))
