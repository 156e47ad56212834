-- The lowest place of a closed slot.
use Rattle.std.proofs.Common.{◌≡◌, ◌≢◌, inl, inr, ℕ, zero, suc, ◌+◌, ◌<◌, ◌≤◌, true, false, List, [], ◌∷◌, length, map, Option, None, Some, refl, sym, ◌∙◌, ap, subst, arith}
use Rattle.std.specs.Prelude.{◌==◌, ◌||◌, All, eqb}
use Rattle.std.specs.List.{IsDistinct, AllByRecursion, list_any}
use Rattle.std.proofs.lemmas.Bool.{cases_eq, eqb-true, eq-eqb, ne_eqb, or_left, or_cases}
use Rattle.std.proofs.lemmas.Map.Steps.{length-le_from_distinct_below}
use Rattle.spool_state.specs.SpoolState.{OpenSlot, SpoolState, AreElsewhere, AreApart, IsOpenSlot, IsSound}
use Rattle.spool_state.specs.Image.{slot_at}
use Rattle.spool_state.proofs.Frames.{apart}
use Rattle.spool_slots.specs.declared.slot.Slot.{Slot}
use Rattle.spool_state.specs.Free.{has_place, or_else, lowest_closed, IsClosed}
use Rattle.spool_state.proofs.Frees.{found_closed}
use Rattle.spool_log.specs.Knows.{KnowsSlots}
use Rattle.std.proofs.lemmas.List.Elements.{All-head, All-tail}

-- slots at one offset are one
pub same_place : (size p q : ℕ) → 0 < size → slot_at size p ≡ slot_at size q → p ≡ q
same_place size p q some is = elim (cases_eq p q) [
  | inl same ↦ same
  | inr differ ↦ elim (apart size p q differ) [ inl before ↦ absurd (omega arith) | inr behind ↦ absurd (omega arith) ]
]

-- so far none, and this one is taken or not
pub lowest_none : (s : SpoolState) (n : ℕ) → lowest_closed s n ≡ None → (s.active.place == n || has_place n s.older) ≡ true → lowest_closed s (suc n) ≡ None
lowest_none s n none taken = λ i. or_else (none i) (taken i) n

pub lowest_found : (s : SpoolState) (n : ℕ) → lowest_closed s n ≡ None → (s.active.place == n || has_place n s.older) ≡ false → lowest_closed s (suc n) ≡ Some n
lowest_found s n none free = λ i. or_else (none i) (free i) n

-- the lowest one stays the lowest one
pub lowest_later : (s : SpoolState) (n p : ℕ) → lowest_closed s (suc n) ≡ Some p → (m : ℕ) → n < m → lowest_closed s m ≡ Some p
lowest_later s n p found zero lt = absurd (omega arith)
lowest_later s n p found (suc m) lt = elim (cases_eq n m) [
  | inl same ↦ subst (λ (k : ℕ). lowest_closed s (suc k) ≡ Some p) same found
  | inr differ ↦ ap (λ (o : Option ℕ). or_else o (s.active.place == m || has_place m s.older) m) (lowest_later s n p found m (omega arith))
]

-- places that differ are fewer than there are
abbrev places_of : List OpenSlot → List ℕ
places_of slots = map (λ slot. slot.place) slots

off_places : (place : ℕ) (slots : List OpenSlot) → AreElsewhere place slots → AllByRecursion (λ y. eqb place y ≡ false) (places_of slots)
off_places place [] h = tt
off_places place (slot ∷ slots) h = (ne_eqb place slot.place (λ is. All-head (λ x. x.place ≢ place) slot slots h (sym is)), off_places place slots (All-tail (λ x. x.place ≢ place) slot slots h))

distinct_places : (slots : List OpenSlot) → AreApart slots → IsDistinct eqb (places_of slots)
unfolding IsDistinct
distinct_places [] h = tt
distinct_places (slot ∷ slots) h = (off_places slot.place slots h.0, distinct_places slots h.1)

below_places : (n : ℕ) (slots : List OpenSlot) → All (IsOpenSlot n) slots → (q : ℕ) → list_any (eqb q) (places_of slots) ≡ true → q < n
below_places n [] h q is = absurd (cc)
below_places n (slot ∷ slots) h q is = elim (or_cases (eqb q slot.place) (list_any (eqb q) (places_of slots)) is) [
  | inl here ↦ omega (arith, eqb-true q slot.place here, (All-head (IsOpenSlot n) slot slots h).place)
  | inr there ↦ below_places n slots (All-tail (IsOpenSlot n) slot slots h) q there
]

length-places : (slots : List OpenSlot) → length (places_of slots) ≡ length slots
length-places [] = refl
length-places (slot ∷ slots) = ap suc (length-places slots)

pub closed_few : (s : SpoolState) (p : ℕ) → IsSound s → IsClosed s p → length s.older + 1 < s.slots
unfolding IsDistinct
closed_few s p sound closed =
    let xs = p ∷ s.active.place ∷ places_of s.older in
    let distinct : IsDistinct eqb xs = ((ne_eqb p s.active.place (λ is. closed.inactive (sym is)), off_places p s.older closed.elsewhere), (off_places s.active.place s.older sound.apart_active, distinct_places s.older sound.apart)) in
    let below : (q : ℕ) → list_any (eqb q) xs ≡ true → q < s.slots = λ q is. elim (or_cases (eqb q p) (list_any (eqb q) (s.active.place ∷ places_of s.older)) is) [
      | inl here ↦ omega (arith, eqb-true q p here, closed.within)
      | inr more ↦ elim (or_cases (eqb q s.active.place) (list_any (eqb q) (places_of s.older)) more) [
        | inl here ↦ omega (arith, eqb-true q s.active.place here, sound.active.place)
        | inr there ↦ below_places s.slots s.older sound.older q there
      ]
    ] in
    omega (arith, length-le_from_distinct_below xs s.slots distinct below, length-places s.older)

pub length-knows : (size : ℕ) (slots : List OpenSlot) (known : List Slot) → KnowsSlots size slots known → length known ≡ length slots
length-knows size [] [] h = refl
length-knows size [] (k ∷ known) h = absurd h
length-knows size (slot ∷ slots) [] h = absurd h
length-knows size (slot ∷ slots) (k ∷ known) h = ap suc (length-knows size slots known h.1)

-- where all slots are open, none is found
lowest_by : (s : SpoolState) (found : Option ℕ) → lowest_closed s s.slots ≡ found → IsSound s → s.slots ≤ length s.older + 1 → None ≡ found
lowest_by s None is sound full = refl
lowest_by s (Some p) is sound full = absurd (omega (arith, closed_few s p sound (found_closed s p is)))

pub lowest_full : (s : SpoolState) → IsSound s → s.slots ≤ length s.older + 1 → None ≡ lowest_closed s s.slots
lowest_full s sound full = lowest_by s (lowest_closed s s.slots) refl sound full

-- whether one of the slots in memory begins at the offset of a place
eqb_offset : (size p q at : ℕ) → 0 < size → at ≡ slot_at size p → (at == slot_at size q) ≡ (p == q)
eqb_offset size p q at some is = elim (cases_eq p q) [
  | inl same ↦ eq-eqb at (slot_at size q) (is ∙ ap (λ (k : ℕ). slot_at size k) same) ∙ sym (eq-eqb p q same)
  | inr differ ↦ ne_eqb at (slot_at size q) (λ e. differ (same_place size p q some (sym is ∙ e))) ∙ sym (ne_eqb p q differ)
]

pub any_offset : (size place : ℕ) (slots : List OpenSlot) (known : List Slot) → 0 < size → KnowsSlots size slots known → list_any (λ k. k.at == slot_at size place) known ≡ has_place place slots
any_offset size place [] [] some h = refl
any_offset size place [] (k ∷ known) some h = absurd h
any_offset size place (slot ∷ slots) [] some h = absurd h
any_offset size place (slot ∷ slots) (k ∷ known) some h = λ i. eqb_offset size slot.place place k.at some h.0.at_is i || any_offset size place slots known some h.1 i

pub taken_here : (size p place at : ℕ) (slots : List OpenSlot) → 0 < size → at ≡ slot_at size p → at ≡ slot_at size place → true ≡ (p == place || has_place place slots)
taken_here size p place at slots some is here = sym (or_left (p == place) (has_place place slots) (eq-eqb p place (same_place size p place some (sym is ∙ here))))

pub taken_there : (size p place at : ℕ) (slots : List OpenSlot) → 0 < size → at ≡ slot_at size p → (at ≡ slot_at size place → ⊥) → has_place place slots ≡ (p == place || has_place place slots)
taken_there size p place at slots some is off = λ i. sym (ne_eqb p place (λ same. off (is ∙ ap (λ (k : ℕ). slot_at size k) same))) i || has_place place slots
