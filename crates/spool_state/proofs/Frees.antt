-- A slot is free exactly where one is chosen: the closed one of lowest place, else the first older one.
use Rattle.std.proofs.Common.{◌≡◌, ◌≢◌, ◌⊎◌, ◌↔◌, inl, inr, ℕ, zero, suc, ◌<◌, ◌≤◌, Bool, true, false, List, [], ◌∷◌, Option, None, Some, refl, sym, ap, subst, arith}
use Rattle.std.specs.Prelude.{◌==◌, ◌||◌, All}
use Rattle.std.specs.List.{Contains}
use Rattle.std.proofs.lemmas.Bool.{cases_eq, eqb-false, ne_eqb, or_parts, or_from, both_ways, cases_Bool, leb-true, le-leb}
use Rattle.std.proofs.lemmas.List.Elements.{All-nil, All-cons, All-head, All-tail, All-contains}
use Rattle.spool_state.specs.SpoolState.{OpenSlot, SpoolState, first_of, AreConsecutive, AreElsewhere, IsSound}
use Rattle.spool_state.specs.Free.{end_of, IsClosed, IsPassed, IsFree, NoneIsFree, has_place, is_confirmed, or_else, lowest_closed, first_is_confirmed}
use Rattle.spool_state.proofs.Sorting.{contained}

-- ---- the closed slot of lowest place

abbrev is_taken : SpoolState → ℕ → Bool
is_taken s place = s.active.place == place || has_place place s.older

none_has : (place : ℕ) (slots : List OpenSlot) → has_place place slots ≡ false → AreElsewhere place slots
none_has place [] h = All-nil (λ slot. slot.place ≢ place)
none_has place (slot ∷ slots) h =
    let parts = or_parts (slot.place == place) (has_place place slots) h in
    All-cons (λ x. x.place ≢ place) slot slots (eqb-false slot.place place parts.0) (none_has place slots parts.1)

elsewhere_has : (place : ℕ) (slots : List OpenSlot) → AreElsewhere place slots → has_place place slots ≡ false
elsewhere_has place [] h = refl
elsewhere_has place (slot ∷ slots) h =
    or_from (slot.place == place) (has_place place slots) (ne_eqb slot.place place (All-head (λ x. x.place ≢ place) slot slots h)) (elsewhere_has place slots (All-tail (λ x. x.place ≢ place) slot slots h))

-- the place that is found, by what was found before it
found_by : (s : SpoolState) (n p : ℕ) (before : Option ℕ) (taken : Bool) → (before ≡ Some p → p < n) → or_else before taken n ≡ Some p → ((p < n) × (before ≡ Some p)) ⊎ ((p ≡ n) × (taken ≡ false))
found_by s n p (Some q) taken below h = inl (below h, h)
found_by s n p None true below h = absurd (cc)
found_by s n p None false below h = inr (cc, refl)

found_below : (s : SpoolState) (n p : ℕ) → lowest_closed s n ≡ Some p → p < n
found_below s zero p h = absurd (cc)
found_below s (suc n) p h = elim (found_by s n p (lowest_closed s n) (is_taken s n) (found_below s n p) h) [ inl one ↦ omega (arith, one.0) | inr two ↦ omega (arith, two.0) ]

pub found_free : (s : SpoolState) (n p : ℕ) → lowest_closed s n ≡ Some p → (s.active.place == p || has_place p s.older) ≡ false
found_free s zero p h = absurd (cc)
found_free s (suc n) p h = elim (found_by s n p (lowest_closed s n) (is_taken s n) (found_below s n p) h) [
  | inl one ↦ found_free s n p one.1
  | inr two ↦ subst (λ (k : ℕ). is_taken s k ≡ false) (sym two.0) two.1
]

pub found_closed : (s : SpoolState) (p : ℕ) → lowest_closed s s.slots ≡ Some p → IsClosed s p
found_closed s p h =
    let parts = or_parts (s.active.place == p) (has_place p s.older) (found_free s s.slots p h) in
    record { within = found_below s s.slots p h; inactive = eqb-false s.active.place p parts.0; elsewhere = none_has p s.older parts.1 }

-- where none is found, each place is taken
none_by : (n : ℕ) (before : Option ℕ) (taken : Bool) → or_else before taken n ≡ None → (before ≡ None) × (taken ≡ true)
none_by n (Some q) taken h = absurd (cc)
none_by n None true h = (refl, refl)
none_by n None false h = absurd (cc)

all_taken : (s : SpoolState) (n : ℕ) → lowest_closed s n ≡ None → (p : ℕ) → p < n → is_taken s p ≡ true
all_taken s zero none p lt = absurd (omega arith)
all_taken s (suc n) none p lt =
    let parts = none_by n (lowest_closed s n) (is_taken s n) none in
    elim (cases_eq p n) [
      | inl is ↦ subst (λ (k : ℕ). is_taken s k ≡ true) (sym is) parts.1
      | inr off ↦ all_taken s n parts.0 p (omega arith)
    ]

pub none_closed : (s : SpoolState) → lowest_closed s s.slots ≡ None → (p : ℕ) → IsClosed s p → ⊥
none_closed s none p closed =
    both_ways (is_taken s p) (or_from (s.active.place == p) (has_place p s.older) (ne_eqb s.active.place p closed.inactive) (elsewhere_has p s.older closed.elsewhere)) (all_taken s s.slots none p closed.within)

-- ---- the first older slot

-- slots in order end one after another
ends_rise : (slots : List OpenSlot) (ordinal first n : ℕ) → AreConsecutive slots ordinal first → n ≤ first_of slots first → All (λ slot. n ≤ end_of slot) slots
ends_rise [] ordinal first n h le = All-nil (λ slot. n ≤ end_of slot)
ends_rise (slot ∷ slots) ordinal first n h le =
    All-cons (λ x. n ≤ end_of x) slot slots (omega arith) (ends_rise slots ordinal first n h.3 (omega (arith, h.1)))

first_ends : (slot x : OpenSlot) (slots : List OpenSlot) (ordinal first : ℕ) → AreConsecutive (slot ∷ slots) ordinal first → Contains (slot ∷ slots) x → end_of slot ≤ end_of x
first_ends slot x slots ordinal first h there = elim (contained slot slots x there) [
  | inl is ↦ omega (arith, ap end_of is)
  | inr after ↦ All-contains (λ y. end_of slot ≤ end_of y) slots x (ends_rise slots ordinal first (end_of slot) h.3 (omega (arith, h.1))) after
]

none_passed_of : (s : SpoolState) (slots : List OpenSlot) (ordinal first : ℕ) → AreConsecutive slots ordinal first → first_is_confirmed s slots ≡ false → (x : OpenSlot) → Contains slots x → end_of x ≤ s.cursor → ⊥
none_passed_of s [] ordinal first h none x there below = omega (arith, there.1)
none_passed_of s (slot ∷ slots) ordinal first h none x there below =
    both_ways (is_confirmed s slot) none (le-leb (end_of slot) s.cursor (omega (arith, below, first_ends slot x slots ordinal first h there)))

pub none_passed : (s : SpoolState) → IsSound s → first_is_confirmed s s.older ≡ false → (p : ℕ) → IsPassed s p → ⊥
none_passed s sound none p passed = none_passed_of s s.older s.active.segment.ordinal s.active.segment.first sound.consecutive none passed.slot passed.older passed.below

-- ---- both

-- the one that is chosen is free
pub closed_free : (s : SpoolState) (p : ℕ) → lowest_closed s s.slots ≡ Some p → IsFree s p
closed_free s p is = inl (found_closed s p is)

pub first_free : (s : SpoolState) (slot : OpenSlot) (rest : List OpenSlot) → s.older ≡ slot ∷ rest → is_confirmed s slot ≡ true → IsFree s slot.place
first_free s slot rest is confirmed = inr (record {
  slot = slot;
  older = subst (λ (l : List OpenSlot). Contains l slot) (sym is) (0, omega arith, refl);
  here = refl;
  below = leb-true (end_of slot) s.cursor confirmed;
})

-- Where none is chosen, none is free.
pub none_free : (s : SpoolState) → IsSound s → lowest_closed s s.slots ≡ None → first_is_confirmed s s.older ≡ false → NoneIsFree s
none_free s sound closed first p (inl is) = none_closed s closed p is
none_free s sound closed first p (inr is) = none_passed s sound first p is

none_lowest : (s : SpoolState) (found : Option ℕ) → lowest_closed s s.slots ≡ found → NoneIsFree s → lowest_closed s s.slots ≡ None
none_lowest s None is none = is
none_lowest s (Some p) is none = absurd (none p (closed_free s p is))

none_first : (s : SpoolState) (slots : List OpenSlot) → s.older ≡ slots → NoneIsFree s → first_is_confirmed s slots ≡ false
none_first s [] is none = refl
none_first s (slot ∷ slots) is none = elim (cases_Bool (is_confirmed s slot)) [
  | inl confirmed ↦ absurd (none slot.place (first_free s slot slots is confirmed))
  | inr not ↦ not
]

-- And where none is free, none is chosen.
pub none_chosen : (s : SpoolState) → IsSound s → NoneIsFree s ↔ ((lowest_closed s s.slots ≡ None) × (first_is_confirmed s s.older ≡ false))
none_chosen s sound = ((λ none. (none_lowest s (lowest_closed s s.slots) refl none, none_first s s.older refl none)), (λ parts. none_free s sound parts.0 parts.1))
