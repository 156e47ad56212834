-- Where a slot breaks the rule of its groups: at one place.
use Rattle.std.proofs.Common.{◌≡◌, inl, inr, ℕ, ◌+◌, ◌^◌, ◌<◌, ◌≤◌, List, [], ◌∷◌, ◌++◌, length, drop, get_or, refl, sym, ◌∙◌, ap, subst, arith, append_assoc, length-append}
use Rattle.std.specs.List.{AllByRecursion}
use Rattle.std.proofs.lemmas.Bool.{cases_order}
use Rattle.std.proofs.lemmas.List.{drop_at}
use Rattle.std.proofs.lemmas.List.Elements.{All-contains, recursion_from_All}
use Rattle.foundation.proofs.Bytes.{get_or-part, length-part}
use Rattle.event_form.specs.declared.event.Entry.{Entry}
use Rattle.spool_state.specs.Segment.{IsGroup, Segment, group_text, groups_text, head_text, segment_text}
use Rattle.spool_state.specs.SpoolState.{OpenSlot}
use Rattle.spool_state.specs.Image.{slot_at}
use Rattle.spool_state.specs.Broken.{BeginsGroup, BreaksAt}
use Rattle.spool_state.specs.Order.{IsFound, AreOpenSlots}
use Rattle.spool_state.specs.Rules.{IsWhole, GroupBreaks}
use Rattle.spool_state.proofs.Frames.{inside}
use Rattle.spool_state.proofs.Once.{one_group, broken_holds_none}
use Rattle.spool_state.proofs.Sorting.{slot_of_place}
use Rattle.spool_state.proofs.Texts.{length-head_text}

-- ---- one slot

joined : (g : List Entry) (groups : List (List Entry)) (x : List ℕ) → groups_text (g ∷ groups) ++ x ≡ 1 ∷ (group_text g ++ (groups_text groups ++ x))
joined g groups x = append_assoc (1 ∷ group_text g) (groups_text groups) x

some_open : (y : List ℕ) → get_or y 0 0 ≡ 1 → 0 < length y
some_open [] is = absurd (omega (arith, is))
some_open (b ∷ y) is = omega arith

begins : (g : List Entry) (gs : List (List Entry)) (x y : List ℕ) → IsGroup g → get_or y 0 0 ≡ 1 → x ≡ groups_text (g ∷ gs) ++ y → BeginsGroup g x
begins g gs x y sound opens is = record {
  sound = sound;
  behind = groups_text gs ++ y;
  text = is ∙ joined g gs y;
  closing = omega (arith, length-append (groups_text gs) y, some_open y opens);
}

longer : (g : List Entry) (gs : List (List Entry)) → length (groups_text (g ∷ gs)) ≡ 1 + length (group_text g) + length (groups_text gs)
longer g gs = omega (arith, length-append (1 ∷ group_text g) (groups_text gs))

-- groups that are read from the front up to where a gate is open and no group begins are as long, however they are read
stops_once : (bs gs : List (List Entry)) (x y : List ℕ) → AllByRecursion IsGroup bs → AllByRecursion IsGroup gs → length (groups_text bs ++ x) < 2 ^ 32
    → get_or x 0 0 ≡ 1 → get_or y 0 0 ≡ 1 → ((g : List Entry) → BeginsGroup g x → ⊥) → ((g : List Entry) → BeginsGroup g y → ⊥)
    → groups_text bs ++ x ≡ groups_text gs ++ y → length (groups_text bs) ≡ length (groups_text gs)
stops_once [] [] x y hb hg lt ox oy nx ny is = refl
stops_once [] (g ∷ gs) x y hb hg lt ox oy nx ny is = absurd (nx g (begins g gs x y hg.0 oy is))
stops_once (b ∷ bs) [] x y hb hg lt ox oy nx ny is = absurd (ny b (begins b bs y x hb.0 ox (sym is)))
stops_once (b ∷ bs) (g ∷ gs) x y hb hg lt ox oy nx ny is =
    let both : group_text b ++ (groups_text bs ++ x) ≡ group_text g ++ (groups_text gs ++ y) = ap (drop 1) (sym (joined b bs x) ∙ is ∙ joined g gs y) in
    let long : length (group_text b ++ (groups_text bs ++ x)) < 2 ^ 32 = omega (arith, lt, ap length (joined b bs x)) in
    let first = one_group b g (groups_text bs ++ x) (groups_text gs ++ y) hb.0 hg.0 long both in
    let others = stops_once bs gs x y hb.1 hg.1 (omega (arith, long, length-append (group_text b) (groups_text bs ++ x))) ox oy nx ny first.1 in
    let same : length (group_text b) ≡ length (group_text g) = ap (λ (l : List Entry). length (group_text l)) first.0 in
    omega (arith, longer b bs, longer g gs, others, same)

behind_head : (segment : Segment) (rest : List ℕ) → drop 17 (segment_text segment ++ rest) ≡ groups_text segment.groups ++ rest
behind_head segment rest = ap (drop 17) (append_assoc (head_text segment.ordinal segment.first) (groups_text segment.groups) rest) ∙ drop_at (head_text segment.ordinal segment.first) (groups_text segment.groups ++ rest) 17 (length-head_text segment.ordinal segment.first)

length_of : (segment : Segment) → length (segment_text segment) ≡ 17 + length (groups_text segment.groups)
length_of segment = omega (arith, length-append (head_text segment.ordinal segment.first) (groups_text segment.groups), length-head_text segment.ordinal segment.first)

one_break : (at size p q : ℕ) (c : List ℕ) → at + size ≤ length c → size < 2 ^ 32 → BreaksAt at size p c → BreaksAt at size q c → p ≡ q
one_break at size p q c room small b d =
    let same : groups_text b.before.groups ++ b.rest ≡ groups_text d.before.groups ++ d.rest = sym (behind_head b.before b.rest) ∙ ap (drop 17) (sym b.text ∙ d.text) ∙ behind_head d.before d.rest in
    let all : length (segment_text b.before ++ b.rest) < 2 ^ 32 = omega (arith, small, length-part at size c room, ap length b.text) in
    let short : length (groups_text b.before.groups ++ b.rest) < 2 ^ 32 =
    omega (arith, all, length-append (segment_text b.before) b.rest, length_of b.before, length-append (groups_text b.before.groups) b.rest) in
    let n = stops_once b.before.groups d.before.groups b.rest d.rest (recursion_from_All IsGroup b.before.groups b.sound) (recursion_from_All IsGroup d.before.groups d.sound) short b.opens d.opens b.no_group d.no_group same in
    omega (arith, b.here, d.here, n, length_of b.before, length_of d.before)

head_open : (ordinal first : ℕ) (x : List ℕ) → get_or (head_text ordinal first ++ x) 0 0 ≡ 1
unfolding head_text
head_open ordinal first x = refl

-- a slot that breaks the rule is open
breaks_open : (at size p : ℕ) (c : List ℕ) → 0 < size → BreaksAt at size p c → get_or c at 0 ≡ 1
breaks_open at size p c some b =
    sym (get_or-part at size c 0 at some (omega arith))
    ∙ ap (λ (l : List ℕ). get_or l 0 0) (b.text ∙ append_assoc (head_text b.before.ordinal b.before.first) (groups_text b.before.groups) b.rest)
    ∙ head_open b.before.ordinal b.before.first (groups_text b.before.groups ++ b.rest)

-- ---- all slots

module _ (slots size : ℕ) (c : List ℕ) (long : length c ≡ slot_at size slots) (some : 0 < size) (small : size < 2 ^ 32) where
  room : (slot : ℕ) → slot < slots → slot_at size slot + size ≤ length c
  room slot lt = omega (arith, inside size slot slots lt, long)

  not_whole : (slot p : ℕ) → slot < slots → BreaksAt (slot_at size slot) size p c → IsWhole size slot c → ⊥
  not_whole slot p lt breaks (inl shut) = shut (breaks_open (slot_at size slot) size p c some breaks)
  not_whole slot p lt breaks (inr held) = broken_holds_none (slot_at size slot) size p held.0 c (room slot lt) small held.1 breaks held.2

  -- Only one slot is the first that breaks the rule, and it does at one place.
  pub one_group_break : (p q : ℕ) → GroupBreaks slots size p c → GroupBreaks slots size q c → p ≡ q
  one_group_break p q a b = elim (cases_order a.slot b.slot) [
    | inl is ↦ one_break (slot_at size b.slot) size p q c (room b.slot b.within) small (subst (λ (n : ℕ). BreaksAt (slot_at size n) size p c) is a.breaks) b.breaks
    | inr off ↦ elim off [
      | inl less ↦ absurd (not_whole a.slot p a.within a.breaks (b.before a.slot less))
      | inr more ↦ absurd (not_whole b.slot q b.within b.breaks (a.before b.slot more))
    ]
  ]

  -- where one does, there is no list of the open slots
  pub break_has_no_list : (p : ℕ) (opened : List OpenSlot) → GroupBreaks slots size p c → AreOpenSlots slots size c opened → ⊥
  break_has_no_list p opened a has = elim (slot_of_place a.slot opened) [
    | inl none ↦ has.others a.slot a.within none (breaks_open (slot_at size a.slot) size p c some a.breaks)
    | inr there ↦
        let found = All-contains (IsFound slots size c) opened there.0 has.found there.1 in
        broken_holds_none (slot_at size there.0.place) size p there.0.segment c (room there.0.place found.place) small found.groups
        (subst (λ (n : ℕ). BreaksAt (slot_at size n) size p c) (sym there.2) a.breaks) found.holds
  ]
