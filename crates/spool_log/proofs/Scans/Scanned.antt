-- The slots of a device found one after another, and kept in order.
use Rattle.std.proofs.Common.{◌≡◌, ◌≢◌, inl, inr, ℕ, suc, ◌+◌, ◌^◌, ◌<◌, Bool, nat_le, cond, List, [], ◌∷◌, ◌++◌, get_or, take, drop, sym, ap, subst, arith, take-append-drop}
use Rattle.std.specs.Prelude.{All}
use Rattle.std.specs.List.{prefix_len, insert}
use Rattle.std.proofs.lemmas.Bool.{cases_lt}
use Rattle.std.proofs.lemmas.Bool.Decides.{leb_tells}
use Rattle.std.proofs.lemmas.List.Elements.{All-nil, All-cons, All-head, All-tail, All-append, All-take, All-drop, All-same, All-contains}
use Rattle.spool_state.specs.Segment.{Segment}
use Rattle.spool_state.specs.SpoolState.{OpenSlot}
use Rattle.spool_state.specs.Image.{slot_at, HoldsSegment}
use Rattle.spool_state.specs.Broken.{BreaksAt}
use Rattle.spool_state.specs.Order.{ComesBefore, AreSorted, IsFound}
use Rattle.spool_state.specs.Rules.{GroupBreaks}
use Rattle.spool_state.proofs.Sorting.{slot_of_place}
use Rattle.spool_slots.specs.declared.slot.Slot.{Slot}
use Rattle.spool_slots.specs.Slot as Slots
use Rattle.spool_log.specs.Knows.{KnowsSlot, KnowsSlots}
use Rattle.spool_log.specs.Reading.{KnowsOpened}

-- ---- lists with one element more

insert_first : {X : Type 0} (x : X) (xs : List X) (k : ℕ) (y : X) → insert (x ∷ xs) (1 + k) y ≡ x ∷ insert xs k y
insert_first x xs k y =
    let one : 1 + k ≡ suc k = omega arith in
    ap (λ (n : ℕ). insert (x ∷ xs) n y) one

pub All-insert : {X : Type 0} (P : X → Type 0) (xs : List X) (k : ℕ) (y : X) → All P xs → P y → All P (insert xs k y)
All-insert P xs k y all here = All-append P (take k xs) (y ∷ drop k xs) (All-take P k xs all) (All-cons P y (drop k xs) here (All-drop P k xs all))

pub all_split : {X : Type 0} (P : X → Type 0) (xs ys : List X) → All P (xs ++ ys) → All P xs × All P ys
all_split P [] ys all = (All-nil P, all)
all_split P (x ∷ xs) ys all =
    let rest = all_split P xs ys (All-tail P x (xs ++ ys) all) in
    (All-cons P x xs (All-head P x (xs ++ ys) all) rest.0, rest.1)

-- what holds of the list with the element more holds of it and of the others
all_inserted : {X : Type 0} (P : X → Type 0) (xs : List X) (k : ℕ) (y : X) → All P (insert xs k y) → All P xs × P y
all_inserted P xs k y all =
    let split = all_split P (take k xs) (y ∷ drop k xs) all in (
      All-same P xs (take k xs ++ drop k xs) (sym (take-append-drop k xs)) (All-append P (take k xs) (drop k xs) split.0 (All-tail P y (drop k xs) split.1)),
      All-head P y (drop k xs) split.1,
    )

-- ---- one slot more, after those with at most its ordinal

module _ (size : ℕ) (new : OpenSlot) (slot : Slot) (knows : KnowsSlot size new slot) where
  abbrev upto : Slot → Bool
  upto other = nat_le other.ordinal slot.ordinal

  abbrev place_in : List Slot → ℕ
  place_in items = prefix_len upto items

  abbrev AreKept : List OpenSlot → List Slot → ℕ → Type 0
  AreKept slots items k = KnowsSlots size (insert slots k new) (insert items k slot) × AreSorted (insert slots k new)

  behind_first : (s : OpenSlot) (slots : List OpenSlot) (i : Slot) (items : List Slot) (k : ℕ) → KnowsSlot size s i → All (ComesBefore s) slots → ComesBefore s new → AreKept slots items k → AreKept (s ∷ slots) (i ∷ items) (1 + k)
  behind_first s slots i items k known before first kept = (
    subst (λ (l : List OpenSlot). KnowsSlots size l (insert (i ∷ items) (1 + k) slot)) (sym (insert_first s slots k new))
        (subst (λ (l : List Slot). KnowsSlots size (s ∷ insert slots k new) l) (sym (insert_first i items k slot)) (known, kept.0)),
    subst AreSorted (sym (insert_first s slots k new)) (All-insert (ComesBefore s) slots k new before first, kept.1),
  )

  first_of_all : (s : OpenSlot) (slots : List OpenSlot) → new.segment.ordinal < s.segment.ordinal → All (ComesBefore s) slots → All (ComesBefore new) (s ∷ slots)
  first_of_all s slots lt before =
      All-cons (ComesBefore new) s slots (inl lt) (λ k d within. elim (before k d within) [ inl less ↦ inl (omega arith) | inr same ↦ inl (omega (arith, same.0)) ])

  pub kept : (slots : List OpenSlot) (items : List Slot) → KnowsSlots size slots items → AreSorted slots → All (λ s. s.place < new.place) slots → AreKept slots items (place_in items)
  kept [] [] known sorted lower = ((knows, tt), (All-nil (ComesBefore new), tt))
  kept [] (i ∷ items) known sorted lower = absurd known
  kept (s ∷ slots) [] known sorted lower = absurd known
  kept (s ∷ slots) (i ∷ items) known sorted lower =
      let later = kept slots items known.1 sorted.1 (All-tail (λ s. s.place < new.place) s slots lower) in
      elim (leb_tells i.ordinal slot.ordinal) [
        | inl le ↦
            let first : ComesBefore s new = elim (cases_lt s.segment.ordinal new.segment.ordinal) [
              | inl lt ↦ inl lt
              | inr ge ↦ inr (omega (arith, ge, le.1, known.0.ordinal_is, knows.ordinal_is), All-head (λ s. s.place < new.place) s slots lower)
            ] in
            subst (AreKept (s ∷ slots) (i ∷ items)) (ap (λ (b : Bool). cond b (1 + place_in items) 0) (sym le.0)) (behind_first s slots i items (place_in items) known.0 sorted.0 first later)
        | inr gt ↦
            subst (AreKept (s ∷ slots) (i ∷ items)) (ap (λ (b : Bool). cond b (1 + place_in items) 0) (sym gt.0))
            ((knows, known), (first_of_all s slots (omega (arith, gt.1, known.0.ordinal_is, knows.ordinal_is)) sorted.0, sorted))
      ]

-- ---- one place more

known_all : (size : ℕ) (c : List ℕ) (place : ℕ) (slots : List OpenSlot) → All (IsFound place size c) slots → All (λ s. s.place < place) slots
known_all size c place slots found k d lt = (found k d lt).place

wider : (size : ℕ) (c : List ℕ) (place : ℕ) (slots : List OpenSlot) → All (IsFound place size c) slots → All (IsFound (place + 1) size c) slots
wider size c place slots found k d lt =
    let f = found k d lt in
    record { place = omega (arith, f.place); holds = f.holds; groups = f.groups; ordinal = f.ordinal; first = f.first }

pub known_none : (size : ℕ) (c : List ℕ) → KnowsOpened 0 size [] c
known_none size c = record {
  opened = [];
  all = record { found = All-nil (IsFound 0 size c); sorted = tt; others = λ place lt none. absurd (omega arith) };
  numbers = tt;
}

module _ (size place : ℕ) (items : List Slot) (c : List ℕ) (known : KnowsOpened place size items c) where
  -- a closed slot
  pub known_closed : get_or c (slot_at size place) 0 ≢ 1 → KnowsOpened (place + 1) size items c
  known_closed closed = record {
    opened = known.opened;
    all = record {
      found = wider size c place known.opened known.all.found;
      sorted = known.all.sorted;
      others = λ p lt none. elim (cases_lt p place) [
        | inl less ↦ known.all.others p less none
        | inr ge ↦ subst (λ (q : ℕ). get_or c (slot_at size q) 0 ≢ 1) (omega arith) closed
      ];
    };
    numbers = known.numbers;
  }

  -- an open one
  module _ (slot : Slot) (segment : Segment) (at_is : slot.at ≡ slot_at size place) (size_is : slot.size ≡ size) (knows : Slots.Knows slot segment c) (ordinal_fits : slot.ordinal < 2 ^ 64) (first_fits : slot.first < 2 ^ 64) where
    abbrev new : OpenSlot
    new = record { place = place; segment = segment }

    numbers : KnowsSlot size new slot
    numbers = record { at_is = at_is; size_is = size_is; ordinal_is = knows.ordinal; first_is = knows.first; gate_is = knows.gate; count_is = knows.count }

    found : IsFound (place + 1) size c new
    found = record {
      place = omega arith;
      holds = subst (λ (n : ℕ). HoldsSegment n size segment c) at_is (subst (λ (n : ℕ). HoldsSegment slot.at n segment c) size_is knows.holds);
      groups = knows.sound;
      ordinal = omega (arith, knows.ordinal);
      first = omega (arith, knows.first);
    }

    pub known_open : KnowsOpened (place + 1) size (insert items (prefix_len (λ other. nat_le other.ordinal slot.ordinal) items) slot) c
    known_open =
        let k = prefix_len (λ other. nat_le other.ordinal slot.ordinal) items in
        let both = kept size new slot numbers known.opened items known.numbers known.all.sorted (known_all size c place known.opened known.all.found) in
        record {
          opened = insert known.opened k new;
          all = record {
            found = All-insert (IsFound (place + 1) size c) known.opened k new (wider size c place known.opened known.all.found) found;
            sorted = both.1;
            others = λ p lt none.
                let split = all_inserted (λ s. s.place ≢ p) known.opened k new none in
                known.all.others p (omega (arith, split.1)) split.0;
          };
          numbers = both.0;
        }

  -- one that breaks the rule of its groups
  pub first_breaks : (slots at : ℕ) → place < slots → BreaksAt (slot_at size place) size at c → GroupBreaks slots size at c
  first_breaks slots at lt breaks = record {
    slot = place;
    within = lt;
    breaks = breaks;
    before = λ p less. elim (slot_of_place p known.opened) [
      | inl none ↦ inl (known.all.others p less none)
      | inr there ↦
          let f = All-contains (IsFound place size c) known.opened there.0 known.all.found there.1 in
          inr (there.0.segment, f.groups, subst (λ (q : ℕ). HoldsSegment (slot_at size q) size there.0.segment c) there.2 f.holds)
    ];
  }
