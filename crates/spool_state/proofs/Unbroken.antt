-- An image that breaks no rule stands for a state.
use Rattle.std.proofs.Common.{◌≡◌, ◌⊎◌, inl, inr, ℕ, ◌+◌, ◌<◌, ◌≤◌, List, [], ◌∷◌, length, get_or, refl, ap, arith}
use Rattle.std.proofs.lemmas.Bool.{cases_eq, cases_lt, cases_order}
use Rattle.foundation.specs.Bytes.{part}
use Rattle.event_form.proofs.Numbers.{IsBytes}
use Rattle.known_numbers.specs.declared.stretch.Stretch.{Stretch}
use Rattle.known_numbers.specs.Numbers.{AreApart, EndBy}
use Rattle.spool_state.specs.Layout.{first_cell, second_cell, first_slot, most_slots, least_size, most_size, most_number}
use Rattle.spool_state.specs.SpoolState.{OpenSlot, SpoolState, first_of}
use Rattle.spool_state.specs.Cells.{ordinal_at, cursor_at, known_at, NoCellCounts, IsCounting}
use Rattle.spool_state.specs.Image.{slot_at, magic, StandsFor}
use Rattle.spool_state.specs.Order.{count_of, AreOpenSlots, IsInOrder, AreInOrder, FirstAtFault}
use Rattle.spool_state.specs.Rules.{slots_told, size_told, IsNamed, IsLayout, IsMeasured, RegisterIsAt, HasHead, IsChain, AreAmong, end_in, Breaks}
use Rattle.spool_state.proofs.Exact.{image_stands}

-- ---- each rule is kept or broken

-- it holds, or it doesn't
abbrev Decided : Type 0 → Type 0
Decided P = P ⊎ (P → ⊥)

at_most : (m n : ℕ) → Decided (m ≤ n)
at_most m n = elim (cases_lt n m) [ inl more ↦ inr (λ le. omega arith) | inr le ↦ inl le ]

below : (m n : ℕ) → Decided (m < n)
below m n = elim (cases_lt m n) [ inl lt ↦ inl lt | inr ge ↦ inr (λ lt. omega arith) ]

two : (P Q : Type 0) → Decided P → Decided Q → Decided (P × Q)
two P Q (inl p) (inl q) = inl (p, q)
two P Q (inl p) (inr not_q) = inr (λ both. not_q both.1)
two P Q (inr not_p) q = inr (λ both. not_p both.0)

by : (P Q : Type 0) → (P → Q) → (Q → P) → Decided P → Decided Q
by P Q there back (inl p) = inl (there p)
by P Q there back (inr not) = inr (λ q. not (back q))

same_list : (xs ys : List ℕ) → Decided (xs ≡ ys)
same_list [] [] = inl refl
same_list [] (y ∷ ys) = inr (λ is. absurd (omega (arith, ap length is)))
same_list (x ∷ xs) [] = inr (λ is. absurd (omega (arith, ap length is)))
same_list (x ∷ xs) (y ∷ ys) =
    by ((x ≡ y) × (xs ≡ ys)) (x ∷ xs ≡ y ∷ ys) (λ both i. both.0 i ∷ both.1 i) (λ is. (cc is, cc is)) (two (x ≡ y) (xs ≡ ys) (cases_eq x y) (same_list xs ys))

named : (c : List ℕ) → Decided (IsNamed c)
named c = by ((first_slot ≤ length c) × (part 0 8 c ≡ magic)) (IsNamed c) (λ both. record { room = both.0; name = both.1 }) (λ is. (is.room, is.name))
    (two (first_slot ≤ length c) (part 0 8 c ≡ magic) (at_most first_slot (length c)) (same_list (part 0 8 c) magic))

layout : (slots size len : ℕ) → Decided (IsLayout slots size len)
layout slots size len =
    let long : Type 0 = len ≡ slot_at size slots in
    let sizes : Type 0 = (least_size ≤ size) × (size ≤ most_size) in
    let counts : Type 0 = (1 ≤ slots) × (slots ≤ most_slots) in
    by ((counts × sizes) × long) (IsLayout slots size len)
    (λ all. record { some = all.0.0.0; few = all.0.0.1; large = all.0.1.0; small = all.0.1.1; long = all.1 })
    (λ is. (((is.some, is.few), (is.large, is.small)), is.long))
    (two (counts × sizes) long (two counts sizes (two (1 ≤ slots) (slots ≤ most_slots) (at_most 1 slots) (at_most slots most_slots)) (two (least_size ≤ size) (size ≤ most_size) (at_most least_size size) (at_most size most_size))) (cases_eq len (slot_at size slots)))

-- no cell counts, or one of them does
counting : (c : List ℕ) → NoCellCounts c ⊎ (IsCounting first_cell second_cell c ⊎ IsCounting second_cell first_cell c)
counting c = elim (cases_eq (get_or c first_cell 0) 1) [
  | inl first ↦ elim (cases_eq (get_or c second_cell 0) 1) [
    | inl second ↦ elim (cases_order (ordinal_at first_cell c) (ordinal_at second_cell c)) [
      | inl same ↦ inl (inr (first, second, same))
      | inr off ↦ elim off [
        | inl less ↦ inr (inr (record { is_open = second; other_less = inr less }))
        | inr more ↦ inr (inl (record { is_open = first; other_less = inr more }))
      ]
    ]
    | inr shut ↦ inr (inl (record { is_open = first; other_less = inl shut }))
  ]
  | inr shut ↦ elim (cases_eq (get_or c second_cell 0) 1) [
    | inl second ↦ inr (inr (record { is_open = second; other_less = inl shut }))
    | inr closed ↦ inl (inl (shut, closed))
  ]
]

-- after slots there is one, or none
some_after : (after : List OpenSlot) (n : ℕ) → Decided (0 < length after → 0 < n)
some_after [] n = inl (λ lt. absurd (omega arith))
some_after (slot ∷ after) n = by (0 < n) (0 < length (slot ∷ after) → 0 < n) (λ some lt. some) (λ need. need (omega arith)) (below 0 n)

slot_in_order : (slot : OpenSlot) (after : List OpenSlot) (ordinal first : ℕ) → Decided (IsInOrder slot after ordinal first)
slot_in_order slot after ordinal first =
    let due : Type 0 = (slot.segment.ordinal ≡ ordinal) × (slot.segment.first ≡ first) in
    let some : Type 0 = 0 < length after → 0 < count_of slot in
    let early : Type 0 = slot.segment.ordinal ≤ slot.segment.first + 1 in
    let ends : Type 0 = slot.segment.first + count_of slot ≤ most_number in
    by ((due × some) × (early × ends)) (IsInOrder slot after ordinal first)
    (λ all. record { ordinal_due = all.0.0.0; first_due = all.0.0.1; some = all.0.1; early = all.1.0; ends = all.1.1 })
    (λ is. (((is.ordinal_due, is.first_due), is.some), (is.early, is.ends)))
    (two (due × some) (early × ends) (two due some (two (slot.segment.ordinal ≡ ordinal) (slot.segment.first ≡ first) (cases_eq slot.segment.ordinal ordinal) (cases_eq slot.segment.first first)) (some_after after (count_of slot)))
    (two early ends (at_most slot.segment.ordinal (slot.segment.first + 1)) (at_most (slot.segment.first + count_of slot) most_number)))

-- all slots are in order, or one is the first that isn't
in_order_or_not : (slots : List OpenSlot) (ordinal first : ℕ) → AreInOrder slots ordinal first ⊎ ((place : ℕ) × FirstAtFault slots ordinal first place)
in_order_or_not [] ordinal first = inl tt
in_order_or_not (slot ∷ after) ordinal first = elim (slot_in_order slot after ordinal first) [
  | inl here ↦ elim (in_order_or_not after (slot.segment.ordinal + 1) (slot.segment.first + count_of slot)) [
    | inl rest ↦ inl (here, rest)
    | inr fault ↦ inr (fault.0, inr (here, fault.1))
  ]
  | inr off ↦ inr (slot.place, inl (refl, off))
]

apart : (below : ℕ) (known : List Stretch) → Decided (AreApart below known)
apart before [] = inl tt
apart before (stretch ∷ known) = by (((before < stretch.from) × (stretch.from < stretch.to)) × AreApart stretch.to known) (AreApart before (stretch ∷ known)) (λ all. (all.0.0, all.0.1, all.1)) (λ is. ((is.0, is.1), is.2))
    (two ((before < stretch.from) × (stretch.from < stretch.to)) (AreApart stretch.to known) (two (before < stretch.from) (stretch.from < stretch.to) (below before stretch.from) (below stretch.from stretch.to)) (apart stretch.to known))

ends : (end : ℕ) (known : List Stretch) → Decided (EndBy end known)
ends end [] = inl tt
ends end (stretch ∷ known) = two (stretch.to ≤ end) (EndBy end known) (at_most stretch.to end) (ends end known)

among : (cursor : ℕ) (known : List Stretch) (opened : List OpenSlot) → Decided (AreAmong cursor known opened)
among cursor known opened =
    let bounds : Type 0 = (first_of opened 0 ≤ cursor) × (cursor ≤ end_in opened) in
    let stretches : Type 0 = AreApart cursor known × EndBy (end_in opened) known in
    by (bounds × stretches) (AreAmong cursor known opened)
    (λ all. record { from_first = all.0.0; to_end = all.0.1; apart = all.1.0; known_to_end = all.1.1 })
    (λ is. ((is.from_first, is.to_end), (is.apart, is.known_to_end)))
    (two bounds stretches (two (first_of opened 0 ≤ cursor) (cursor ≤ end_in opened) (at_most (first_of opened 0) cursor) (at_most cursor (end_in opened))) (two (AreApart cursor known) (EndBy (end_in opened) known) (apart cursor known) (ends (end_in opened) known)))

-- ---- an image that breaks none

holds_by : (P : Type 0) → Decided P → ((P → ⊥) → ⊥) → P
holds_by P (inl p) twice = p
holds_by P (inr not) twice = absurd (twice not)

module _ (c : List ℕ) (unbroken : (at : ℕ) → Breaks at c → ⊥) where
  is_named : IsNamed c
  is_named = holds_by (IsNamed c) (named c) (λ not. unbroken 0 (inl (refl, not)))

  is_measured : IsMeasured c
  is_measured = holds_by (IsMeasured c) (layout (slots_told c) (size_told c) (length c)) (λ not. unbroken 8 (inr (inl (refl, is_named, not))))

  register : (cell : ℕ) × RegisterIsAt cell c
  register = elim (counting c) [
    | inl none ↦ absurd (unbroken first_cell (inr (inr (inl (is_named, is_measured, inl (refl, none))))))
    | inr one ↦ elim one [
      | inl first ↦ (first_cell, inl (refl, record { counting = first; good = λ bad. unbroken first_cell (inr (inr (inl (is_named, is_measured, inr (inl (refl, first, bad)))))) }))
      | inr second ↦ (second_cell, inr (refl, record { counting = second; good = λ bad. unbroken second_cell (inr (inr (inl (is_named, is_measured, inr (inr (refl, second, bad)))))) }))
    ]
  ]

  head : HasHead register.0 c
  head = record { named = is_named; measured = is_measured; register = register.1 }

  chain : (opened : List OpenSlot) → AreOpenSlots (slots_told c) (size_told c) c opened → IsChain opened
  chain [] has = absurd (unbroken (slot_at (size_told c) 0) (inr (inr (inr (inr (inl (register.0, head, ([], has, refl))))))))
  chain (slot ∷ slots) has = elim (in_order_or_not (slot ∷ slots) slot.segment.ordinal slot.segment.first) [
    | inl all ↦ record { some = omega arith; all = all }
    | inr fault ↦ absurd (unbroken (slot_at (size_told c) fault.0) (inr (inr (inr (inr (inl (register.0, head, (slot ∷ slots, has, (fault.0, refl, fault.1)))))))))
  ]

  -- Bytes whose open slots hold these segments, and that break no rule, stand for a state.
  pub unbroken_stands : (opened : List OpenSlot) → IsBytes c → AreOpenSlots (slots_told c) (size_told c) c opened → (s : SpoolState) × StandsFor s c
  unbroken_stands opened bytes has =
      let cell = register.0 in
      let in_order = chain opened has in
      let inside = holds_by (AreAmong (cursor_at cell c) (known_at cell c) opened) (among (cursor_at cell c) (known_at cell c) opened) (λ not. unbroken cell (inr (inr (inr (inr (inr (head, (opened, has, in_order, not)))))))) in
      image_stands cell opened c bytes head has in_order inside
