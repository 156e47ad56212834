-- The marks of a segment, and the bytes that stand at them.
use Rattle.std.proofs.Common.{◌≡◌, inl, inr, ℕ, ◌+◌, ◌-◌, ◌^◌, ◌<◌, ◌≤◌, List, [], ◌∷◌, ◌++◌, length, take, drop, get_or, refl, sym, ◌∙◌, ap, subst, arith, append_assoc, length-append}
use Rattle.std.specs.List.{All}
use Rattle.std.proofs.lemmas.List.{append-nil, drop_at, drop-drop, get_or_at, get_or-drop, length-drop, take_min, take_more}
use Rattle.std.proofs.lemmas.List.Concat.{flat_map-append}
use Rattle.foundation.specs.Bytes.{part}
use Rattle.foundation.proofs.Bytes.{length-part}
use Rattle.event_form.specs.declared.event.Entry.{Entry}
use Rattle.event_form.specs.Entry.{IsEntry, entry_text, size_of}
use Rattle.event_form.specs.Reading.{Begins}
use Rattle.event_form.proofs.Fields.{length-entry_text}
use Rattle.spool_state.specs.Segment.{IsGroup, Segment, entries_of, entries_text, group_text, groups_text, head_text, segment_text, with_group}
use Rattle.spool_state.specs.Image.{HoldsSegment}
use Rattle.spool_state.specs.Broken.{BeginsGroup}
use Rattle.spool_state.proofs.Entries.{entries_join}
use Rattle.spool_state.proofs.Once.{entries_at}
use Rattle.spool_state.proofs.Segments.{empty_length, groups_join}
use Rattle.spool_state.proofs.Texts.{length-group_text, length-segment_text-with_group, entries_of-with_group}
use Rattle.spool_slots.specs.declared.mark.Mark.{Mark}
use Rattle.std.specs.Prelude.{min}
use Rattle.spool_slots.specs.Mark.{IsAtGate, IsInGroup, IsMark, IsNext, IsGroupAt, with_groups}
use Rattle.spool_slots.specs.declared.group.GroupHead.{GroupHead}
use Rattle.spool_slots.specs.Groups.{HasHead}
use Rattle.spool_slots.proofs.Found.{head_size, head_count}
use Rattle.spool_slots.proofs.Windows.{drop-part}

-- the first number's mark
pub mark_start : (segment : Segment) (first : ℕ) → first ≡ segment.first → IsMark segment (record { number = first; at = 17; rest = 0 })
mark_start segment first is = inl (record {
  before = [];
  behind = segment.groups;
  whole = refl;
  none_left = refl;
  place = sym (empty_length segment.ordinal segment.first);
  counted = omega (arith, is);
})

-- a mark stays one where a group comes after it
pub mark_stays : (segment : Segment) (group : List Entry) (mark : Mark) → IsMark segment mark → IsMark (with_group segment group) mark
mark_stays segment group mark (inl at_gate) = inl (record {
  before = at_gate.before;
  behind = at_gate.behind ++ group ∷ [];
  whole = ap (λ (l : List (List Entry)). l ++ group ∷ []) at_gate.whole ∙ append_assoc at_gate.before at_gate.behind (group ∷ []);
  none_left = at_gate.none_left;
  place = at_gate.place;
  counted = at_gate.counted;
})
mark_stays segment group mark (inr in_group) = inr (record {
  before = in_group.before;
  passed = in_group.passed;
  left = in_group.left;
  behind = in_group.behind ++ group ∷ [];
  whole = ap (λ (l : List (List Entry)). l ++ group ∷ []) in_group.whole ∙ append_assoc in_group.before ((in_group.passed ++ in_group.left) ∷ in_group.behind) (group ∷ []);
  some = in_group.some;
  rest_is = in_group.rest_is;
  place = in_group.place;
  counted = in_group.counted;
})

entry_in : (passed left more : List Entry) (e : Entry) → All IsEntry (passed ++ left) → left ≡ e ∷ more → IsEntry e
entry_in passed left more e all is =
    subst IsEntry (get_or_at passed e more e (length passed) refl)
    (subst (λ (l : List Entry). (k : ℕ) (d : Entry) → k < length l → IsEntry (get_or l k d)) (ap (λ (l : List Entry). passed ++ l) is) all (length passed) e (omega (arith, length-append passed (e ∷ more))))

entries_split : (segment : Segment) (before behind : List (List Entry)) → segment.groups ≡ before ++ behind → entries_of segment ≡ entries_of (with_groups segment before) ++ entries_of (with_groups segment behind)
entries_split segment before behind is = ap (λ (l : List (List Entry)). entries_of (with_groups segment l)) is ∙ flat_map-append (λ (g : List Entry). g) before behind

-- the bytes of a slot from a gate on, and from an entry on
module _ (at size : ℕ) (segment : Segment) (c : List ℕ) (room : at + size ≤ length c) (holds : HoldsSegment at size segment c) where
  text_split : (before behind : List (List Entry)) → segment.groups ≡ before ++ behind → part at size c ≡ segment_text (with_groups segment before) ++ (groups_text behind ++ holds.rest)
  text_split before behind is =
      let head = head_text segment.ordinal segment.first in
      holds.text
      ∙ ap (λ (l : List (List Entry)). (head ++ groups_text l) ++ holds.rest) is
      ∙ ap (λ (l : List ℕ). (head ++ l) ++ holds.rest) (groups_join before behind)
      ∙ ap (λ (l : List ℕ). l ++ holds.rest) (sym (append_assoc head (groups_text before) (groups_text behind)))
      ∙ append_assoc (head ++ groups_text before) (groups_text behind) holds.rest

  before_fits : (before behind : List (List Entry)) → segment.groups ≡ before ++ behind → length (segment_text (with_groups segment before)) ≤ size
  before_fits before behind is = omega (arith, ap length (text_split before behind is), length-append (segment_text (with_groups segment before)) (groups_text behind ++ holds.rest), length-part at size c room)

  -- from a gate on
  from_gate : (before behind : List (List Entry)) (n : ℕ) → segment.groups ≡ before ++ behind → n ≡ length (segment_text (with_groups segment before)) → part (at + n) (size - n) c ≡ groups_text behind ++ holds.rest
  from_gate before behind n is n_is =
      let text = segment_text (with_groups segment before) in
      let split = text_split before behind is in
      sym (drop-part at n size c (omega (arith, n_is, ap length split, length-append text (groups_text behind ++ holds.rest), length-part at size c room)))
      ∙ ap (drop n) split ∙ drop_at text (groups_text behind ++ holds.rest) n (sym n_is)

  -- the group at a gate with entries after it
  some_behind : (behind : List (List Entry)) → 0 < length (entries_of (with_groups segment behind)) → (g : List Entry) × (more : List (List Entry)) × (behind ≡ g ∷ more)
  some_behind [] some = absurd (omega arith)
  some_behind (g ∷ more) some = (g, more, refl)

  group_text_at : (g : List Entry) (more : List (List Entry)) → groups_text (g ∷ more) ++ holds.rest ≡ 1 ∷ (group_text g ++ (groups_text more ++ holds.rest))
  group_text_at g more = append_assoc (1 ∷ group_text g) (groups_text more) holds.rest

  sound_at : (before more : List (List Entry)) (g : List Entry) → All IsGroup segment.groups → segment.groups ≡ before ++ g ∷ more → IsGroup g
  sound_at before more g sound is =
      subst IsGroup (get_or_at before g more g (length before) refl)
      (subst (λ (l : List (List Entry)). (k : ℕ) (d : List Entry) → k < length l → IsGroup (get_or l k d)) is sound (length before) g (omega (arith, length-append before (g ∷ more))))

  pub group_at : (mark : Mark) → All IsGroup segment.groups → (here : IsAtGate segment mark) → mark.number < segment.first + length (entries_of segment)
      → (g : List Entry) × (more : List (List Entry)) × (here.behind ≡ g ∷ more) × BeginsGroup g (part (at + mark.at) (size - mark.at) c)
  group_at mark sound here lt =
      let found = some_behind here.behind (omega (arith, lt, here.counted, ap length (entries_split segment here.before here.behind here.whole), length-append (entries_of (with_groups segment here.before)) (entries_of (with_groups segment here.behind)))) in
      let is = here.whole ∙ ap (λ (l : List (List Entry)). here.before ++ l) found.2 in (
        found.0,
        found.1,
        found.2,
        record {
          sound = sound_at here.before found.1 found.0 sound is;
          behind = groups_text found.1 ++ holds.rest;
          text = from_gate here.before (found.0 ∷ found.1) mark.at is here.place ∙ group_text_at found.0 found.1;
          closing = omega (arith, length-append (groups_text found.1) holds.rest, holds.more);
        },
      )

  -- within a group the next entry begins at the mark
  pub entry_here : (mark : Mark) → All IsGroup segment.groups → (here : IsInGroup segment mark) (e : Entry) (more : List Entry) → here.left ≡ e ∷ more → (rest : List ℕ) × Begins e (part (at + mark.at) (size - mark.at) c) rest
  entry_here mark sound here e more left_is =
      let g = here.passed ++ here.left in
      let n = length (segment_text (with_groups segment here.before)) in
      let k = 9 + length (entries_text here.passed) in
      let x = groups_text here.behind ++ holds.rest in
      let gate = from_gate here.before (g ∷ here.behind) n here.whole refl ∙ group_text_at g here.behind in
      let group = sound_at here.before here.behind g sound here.whole in
      let whole_text : entries_text g ++ x ≡ entries_text here.passed ++ (entry_text e ++ (entries_text more ++ x)) =
      ap (λ (l : List ℕ). l ++ x) (entries_join here.passed here.left ∙ ap (λ (l : List Entry). entries_text here.passed ++ entries_text l) left_is)
      ∙ append_assoc (entries_text here.passed) (entry_text e ++ entries_text more) x
      ∙ ap (λ (l : List ℕ). entries_text here.passed ++ l) (append_assoc (entry_text e) (entries_text more) x) in
      let n_fits = before_fits here.before (g ∷ here.behind) here.whole in
      let room_for : n + k ≤ size = omega (arith, ap length gate, length-part (at + n) (size - n) c (omega (arith, room, n_fits)), length-append (group_text g) x, length-group_text g, ap length whole_text, length-append (entries_text g) x, length-append (entries_text here.passed) (entry_text e ++ (entries_text more ++ x)), n_fits) in (
        entries_text more ++ x,
        record {
          limits = entry_in here.passed here.left more e group.entries left_is;
          whole = ap (λ (j : ℕ). part j (size - mark.at) c) (omega (arith, here.place)) ∙ ap (λ (j : ℕ). part (at + n + k) j c) (omega (arith, here.place))
              ∙ sym (drop-part (at + n) k (size - n) c (omega (arith, room_for)))
              ∙ ap (drop k) gate
              ∙ sym (drop-drop (length (entries_text here.passed)) 9 (1 ∷ (group_text g ++ x)))
              ∙ ap (drop (length (entries_text here.passed))) (entries_at g x ∙ whole_text)
              ∙ drop_at (entries_text here.passed) (entry_text e ++ (entries_text more ++ x)) (length (entries_text here.passed)) refl;
        },
      )

-- ---- the mark of the next entry

count_split : (segment : Segment) (mark : Mark) (here : IsInGroup segment mark) (e : Entry) (more : List Entry) → here.left ≡ e ∷ more
    → entries_of segment ≡ (entries_of (with_groups segment here.before) ++ here.passed) ++ e ∷ (more ++ entries_of (with_groups segment here.behind))
count_split segment mark here e more left_is =
    let front = entries_of (with_groups segment here.before) in
    let back = entries_of (with_groups segment here.behind) in
    entries_split segment here.before ((here.passed ++ here.left) ∷ here.behind) here.whole
    ∙ ap (λ (l : List Entry). front ++ ((here.passed ++ l) ++ back)) left_is
    ∙ ap (λ (l : List Entry). front ++ l) (append_assoc here.passed (e ∷ more) back)
    ∙ sym (append_assoc front here.passed (e ∷ (more ++ back)))

passed_more : (passed : List Entry) (e : Entry) → length (entries_text (passed ++ e ∷ [])) ≡ length (entries_text passed) + size_of e
passed_more passed e = omega (arith, ap length (entries_join passed (e ∷ [])), length-append (entries_text passed) (entry_text e ++ []), ap length (append-nil (entry_text e)), length-entry_text e)

pub goes_on : (segment : Segment) (mark next : Mark) (here : IsInGroup segment mark) (e : Entry) (more : List Entry) → here.left ≡ e ∷ more → next.number ≡ mark.number + 1 → next.at ≡ mark.at + size_of e → next.rest ≡ mark.rest - 1 → IsMark segment next
goes_on segment mark next here e [] left_is number_is at_is rest_is =
    let group = here.passed ++ here.left in
    let front = with_groups segment here.before in
    let group_is : group ≡ here.passed ++ e ∷ [] = ap (λ (l : List Entry). here.passed ++ l) left_is in
    inl (record {
      before = here.before ++ group ∷ [];
      behind = here.behind;
      whole = here.whole ∙ sym (append_assoc here.before (group ∷ []) here.behind);
      none_left = omega (arith, rest_is, here.rest_is, ap length left_is);
      place = omega (arith, at_is, here.place, length-segment_text-with_group front group, ap (λ (l : List Entry). length (entries_text l)) group_is, passed_more here.passed e);
      counted = omega (arith, number_is, here.counted, ap length (entries_of-with_group front group), length-append (entries_of front) group, ap length group_is, length-append here.passed (e ∷ []));
    })
goes_on segment mark next here e (f ∷ more) left_is number_is at_is rest_is = inr (record {
  before = here.before;
  passed = here.passed ++ e ∷ [];
  left = f ∷ more;
  behind = here.behind;
  whole = here.whole ∙ ap (λ (l : List Entry). here.before ++ l ∷ here.behind) (ap (λ (l : List Entry). here.passed ++ l) left_is ∙ sym (append_assoc here.passed (e ∷ []) (f ∷ more)));
  some = omega arith;
  rest_is = omega (arith, rest_is, here.rest_is, ap length left_is);
  place = omega (arith, at_is, here.place, passed_more here.passed e);
  counted = omega (arith, number_is, here.counted, length-append here.passed (e ∷ []));
})

pub next_is : (segment : Segment) (mark next : Mark) (here : IsInGroup segment mark) (e : Entry) (more : List Entry) → here.left ≡ e ∷ more → next.number ≡ mark.number + 1 → next.at ≡ mark.at + size_of e → next.rest ≡ mark.rest - 1 → IsNext segment mark e next
next_is segment mark next here e more left_is number_is at_is rest_is = record {
  before = entries_of (with_groups segment here.before) ++ here.passed;
  behind = more ++ entries_of (with_groups segment here.behind);
  whole = count_split segment mark here e more left_is;
  counted = omega (arith, here.counted, length-append (entries_of (with_groups segment here.before)) here.passed);
  goes_on = goes_on segment mark next here e more left_is number_is at_is rest_is;
}

-- the first of the entries that are left
pub first_left : (left : List Entry) → 0 < length left → (e : Entry) × (more : List Entry) × (left ≡ e ∷ more)
first_left [] some = absurd (omega arith)
first_left (e ∷ more) some = (e, more, refl)

-- the mark after the head of a group at whose gate another stands
pub entered_is : (segment : Segment) (mark entered : Mark) (here : IsAtGate segment mark) (g : List Entry) (more : List (List Entry)) → here.behind ≡ g ∷ more → 0 < length g → entered.number ≡ mark.number → entered.at ≡ mark.at + 9 → entered.rest ≡ length g → IsInGroup segment entered
entered_is segment mark entered here g more is some number_is at_is rest_is = record {
  before = here.before;
  passed = [];
  left = g;
  behind = more;
  whole = here.whole ∙ ap (λ (l : List (List Entry)). here.before ++ l) is;
  some = some;
  rest_is = rest_is;
  place = omega (arith, at_is, here.place);
  counted = omega (arith, number_is, here.counted);
}

-- the head of a group at whose gate a mark stands
pub group_is : (at size : ℕ) (segment : Segment) (c : List ℕ) (room : at + size ≤ length c) (holds : HoldsSegment at size segment c) (mark : Mark) (sound : All IsGroup segment.groups) (here : IsAtGate segment mark) → mark.number < segment.first + length (entries_of segment)
    → (head : GroupHead) → mark.at < size → size < 2 ^ 32 → HasHead (part (at + mark.at) (size - mark.at) c) head → IsGroupAt segment mark head
group_is at size segment c room holds mark sound here lt head inside small has =
    let found = group_at at size segment c room holds mark sound here lt in
    let short : length (part (at + mark.at) (size - mark.at) c) < 2 ^ 32 = omega (arith, length-part (at + mark.at) (size - mark.at) c (omega (arith, room, inside)), small) in
    record {
      here = here;
      group = found.0;
      after = found.1;
      is = found.2;
      some = found.3.sound.some;
      size_is = head_size (part (at + mark.at) (size - mark.at) c) head short has found.0 found.3;
      count_is = head_count (part (at + mark.at) (size - mark.at) c) head short has found.0 found.3;
    }

-- the mark after that group
pub group_passed : (segment : Segment) (mark passed : Mark) (head : GroupHead) (found : IsGroupAt segment mark head) → passed.number ≡ mark.number + head.count → passed.at ≡ mark.at + 9 + head.size → passed.rest ≡ 0 → IsMark segment passed
group_passed segment mark passed head found number_is at_is none =
    let here = found.here in
    let front = with_groups segment here.before in
    inl (record {
      before = here.before ++ found.group ∷ [];
      behind = found.after;
      whole = here.whole ∙ ap (λ (l : List (List Entry)). here.before ++ l) found.is ∙ sym (append_assoc here.before (found.group ∷ []) found.after);
      none_left = none;
      place = omega (arith, at_is, here.place, found.size_is, length-segment_text-with_group front found.group);
      counted = omega (arith, number_is, here.counted, found.count_is, ap length (entries_of-with_group front found.group), length-append (entries_of front) found.group);
    })

-- a mark with entries left stands in a group
pub in_group : (segment : Segment) (mark : Mark) → 0 < mark.rest → IsMark segment mark → IsInGroup segment mark
in_group segment mark some (inl here) = absurd (omega (arith, some, here.none_left))
in_group segment mark some (inr here) = here

-- and one with none at a gate
pub at_gate : (segment : Segment) (mark : Mark) → mark.rest ≡ 0 → IsMark segment mark → IsAtGate segment mark
at_gate segment mark none (inl here) = here
at_gate segment mark none (inr here) = absurd (omega (arith, none, here.rest_is, here.some))

-- the same entry by another mark of its number
pub next_as : (segment : Segment) (entered mark next : Mark) (d e : Entry) → entered.number ≡ mark.number → d ≡ e → IsNext segment entered e next → IsNext segment mark d next
next_as segment entered mark next d e number_is same is = record {
  before = is.before;
  behind = is.behind;
  whole = is.whole ∙ ap (λ (x : Entry). is.before ++ x ∷ is.behind) (sym same);
  counted = sym number_is ∙ is.counted;
  goes_on = is.goes_on;
}

-- ---- the entries that were read

pub mark_from : (segment : Segment) (mark : Mark) → IsMark segment mark → segment.first ≤ mark.number
mark_from segment mark (inl here) = omega (arith, here.counted)
mark_from segment mark (inr here) = omega (arith, here.counted)

pub read_more : (segment : Segment) (here : Mark) (e : Entry) (next : Mark) (number i : ℕ) (read : List Entry) → segment.first ≤ number → here.number ≡ number + i → read ≡ take i (drop (number - segment.first) (entries_of segment)) → IsNext segment here e next
    → read ++ e ∷ [] ≡ take (i + 1) (drop (number - segment.first) (entries_of segment))
read_more segment here e next number i read from is read_is found =
    let all = entries_of segment in
    let k = number - segment.first in
    let before_is : length found.before ≡ k + i = omega (arith, found.counted, is, from) in
    let long : k + i < length all = omega (arith, ap length found.whole, length-append found.before (e ∷ found.behind), before_is) in
    let there : get_or (drop k all) i e ≡ e = get_or-drop k all i e ∙ ap (λ (l : List Entry). get_or l (k + i) e) found.whole ∙ get_or_at found.before e found.behind e (k + i) before_is in
    ap (λ (l : List Entry). l ++ e ∷ []) read_is ∙ ap (λ (x : Entry). take i (drop k all) ++ x ∷ []) (sym there) ∙ sym (take_more (drop k all) i e (omega (arith, long, length-drop k all)))

pub read_all : (segment : Segment) (number most left wanted : ℕ) (read : List Entry) → segment.first ≤ number → left ≡ segment.first + length (entries_of segment) - number → wanted ≡ min most left → read ≡ take wanted (drop (number - segment.first) (entries_of segment))
    → read ≡ take most (drop (number - segment.first) (entries_of segment))
read_all segment number most left wanted read from left_is wanted_is is =
    let rest = drop (number - segment.first) (entries_of segment) in
    let long : left ≡ length rest = omega (arith, left_is, from, length-drop (number - segment.first) (entries_of segment)) in
    is ∙ ap (λ (n : ℕ). take n rest) (wanted_is ∙ ap (min most) long) ∙ take_min most rest
