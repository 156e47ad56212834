-- As many slots are free as are counted.
use Rattle.std.proofs.Common.{◌≡◌, ◌≢◌, ◌⊎◌, inl, inr, ℕ, zero, suc, ◌+◌, ◌<◌, ◌≤◌, Bool, true, false, cond, List, [], ◌∷◌, length, refl, sym, ◌∙◌, ap, subst, arith}
use Rattle.std.specs.Prelude.{◌||◌, eqb}
use Rattle.std.specs.List.{AllByRecursion, Contains, IsDistinct, list_any}
use Rattle.std.proofs.lemmas.Bool.{cases_Bool, cases_eq, eqb-true, eqb-false, eq-eqb, ne_eqb, or_parts, or_from, or_left, or_cases, both_ways, leb-true, le-leb}
use Rattle.std.proofs.lemmas.List.Elements.{All-head, All-tail, All-contains}
use Rattle.spool_state.specs.SpoolState.{OpenSlot, SpoolState, AreElsewhere, AreApart, IsOpenSlot, IsSound}
use Rattle.spool_state.specs.Free.{end_of, is_confirmed, IsFree}
use Rattle.spool_state.proofs.Sorting.{contained, slot_of_place}
use Rattle.spool_turns.specs.Levels.{count_held_in, free_slots_in}
use Rattle.desk_laws.specs.FreeSlots.{AreFree}

-- ---- numbers below a limit that aren't among others

abbrev others : ℕ → List ℕ → List ℕ
others zero taken = []
others (suc n) taken = cond (list_any (eqb n) taken) (others n taken) (n ∷ others n taken)

-- one more that is taken, which is not below the limit, takes none
same_above : (n p : ℕ) (taken : List ℕ) → n ≤ p → others n (p ∷ taken) ≡ others n taken
same_above zero p taken above = refl
same_above (suc n) p taken above =
    let rest = same_above n p taken (omega (arith, above)) in
    let off = ne_eqb n p (λ is. omega (arith, above, is)) in
    λ i. cond (off i || list_any (eqb n) taken) (rest i) (n ∷ rest i)

-- and one below it takes one
one_less : (n p : ℕ) (taken : List ℕ) → p < n → list_any (eqb p) taken ≡ false → length (others n taken) ≡ suc (length (others n (p ∷ taken)))
one_less zero p taken below new = absurd (omega (arith, below))
one_less (suc n) p taken below new = elim (cases_eq n p) [
  | inl is ↦
      let rest = same_above n p taken (omega (arith, is)) in
      let here = eq-eqb n p is in
      let free = subst (λ (k : ℕ). list_any (eqb k) taken ≡ false) (sym is) new in
      (λ i. length (cond (free i) (others n taken) (n ∷ others n taken)))
      ∙ sym (λ i. suc (length (cond (here i || list_any (eqb n) taken) (rest i) (n ∷ others n (p ∷ taken)))))
  | inr off ↦
      let rest = one_less n p taken (omega (arith, below, off)) new in
      let other = ne_eqb n p off in
      by (list_any (eqb n) taken) rest
      ∙ sym (λ i. suc (length (cond (other i || list_any (eqb n) taken) (others n (p ∷ taken)) (n ∷ others n (p ∷ taken)))))
]
  where
    by : (b : Bool) → length (others n taken) ≡ suc (length (others n (p ∷ taken)))
        → length (cond b (others n taken) (n ∷ others n taken)) ≡ suc (length (cond b (others n (p ∷ taken)) (n ∷ others n (p ∷ taken))))
    by true rest = rest
    by false rest = ap suc rest

all_others : (n : ℕ) → length (others n []) ≡ n
all_others zero = refl
all_others (suc n) = ap suc (all_others n)

off_all : (p : ℕ) (taken : List ℕ) → AllByRecursion (λ y. eqb p y ≡ false) taken → list_any (eqb p) taken ≡ false
off_all p [] h = refl
off_all p (q ∷ taken) h = or_from (eqb p q) (list_any (eqb p) taken) h.0 (off_all p taken h.1)

-- those that are taken and those that aren't are all
all_counted : (n : ℕ) (taken : List ℕ) → IsDistinct eqb taken → ((q : ℕ) → list_any (eqb q) taken ≡ true → q < n) → length (others n taken) + length taken ≡ n
unfolding IsDistinct
all_counted n [] distinct below = omega (arith, all_others n)
all_counted n (p ∷ taken) distinct below =
    let rest = all_counted n taken distinct.1 (λ q h. below q (by (eqb q p) (list_any (eqb q) taken) h)) in
    let least = below p (or_left (eqb p p) (list_any (eqb p) taken) (eq-eqb p p refl)) in
    omega (arith, rest, one_less n p taken least (off_all p taken distinct.0))
  where
    by : (x y : Bool) → y ≡ true → (x || y) ≡ true
    by true y h = refl
    by false y h = h

-- which they are
others_in : (n : ℕ) (taken : List ℕ) (p : ℕ) → Contains (others n taken) p → (p < n) × (list_any (eqb p) taken ≡ false)
others_in zero taken p h = absurd (omega (arith, h.1))
others_in (suc n) taken p h = elim (cases_Bool (list_any (eqb n) taken)) [
  | inl is ↦
      let rest = others_in n taken p (subst (λ (b : Bool). Contains (cond b (others n taken) (n ∷ others n taken)) p) is h) in
      (omega (arith, rest.0), rest.1)
  | inr off ↦ elim (first_or (subst (λ (b : Bool). Contains (cond b (others n taken) (n ∷ others n taken)) p) off h)) [
    | inl same ↦ (omega (arith, same), subst (λ (k : ℕ). list_any (eqb k) taken ≡ false) same off)
    | inr there ↦ let rest = others_in n taken p there in (omega (arith, rest.0), rest.1)
  ]
]
  where
    first_or : Contains (n ∷ others n taken) p → (n ≡ p) ⊎ Contains (others n taken) p
    first_or (zero, lt, is) = inl is
    first_or (suc k, lt, is) = inr (k, omega (arith, lt), is)

in_others : (n : ℕ) (taken : List ℕ) (p : ℕ) → p < n → list_any (eqb p) taken ≡ false → Contains (others n taken) p
in_others zero taken p below free = absurd (omega (arith, below))
in_others (suc n) taken p below free = elim (cases_eq p n) [
  | inl is ↦
      let off = subst (λ (k : ℕ). list_any (eqb k) taken ≡ false) is free in
      subst (λ (b : Bool). Contains (cond b (others n taken) (n ∷ others n taken)) p) (sym off) (0, omega arith, sym is)
  | inr differ ↦
      let rest = in_others n taken p (omega (arith, below, differ)) free in
      by (list_any (eqb n) taken) rest
]
  where
    by : (b : Bool) → Contains (others n taken) p → Contains (cond b (others n taken) (n ∷ others n taken)) p
    by true there = there
    by false there = (suc there.0, omega (arith, there.1), there.2)

below_off : (n m : ℕ) (taken : List ℕ) → n ≤ m → AllByRecursion (λ y. eqb m y ≡ false) (others n taken)
below_off zero m taken above = tt
below_off (suc n) m taken above = by (list_any (eqb n) taken) (below_off n m taken (omega (arith, above))) where
  by : (b : Bool) → AllByRecursion (λ y. eqb m y ≡ false) (others n taken) → AllByRecursion (λ y. eqb m y ≡ false) (cond b (others n taken) (n ∷ others n taken))
  by true rest = rest
  by false rest = (ne_eqb m n (λ is. omega (arith, above, is)), rest)

others_distinct : (n : ℕ) (taken : List ℕ) → IsDistinct eqb (others n taken)
unfolding IsDistinct
others_distinct zero taken = tt
others_distinct (suc n) taken = by (list_any (eqb n) taken) (others_distinct n taken) where
  by : (b : Bool) → IsDistinct eqb (others n taken) → IsDistinct eqb (cond b (others n taken) (n ∷ others n taken))
  by true rest = rest
  by false rest = (below_off n n taken (omega arith), rest)

-- ---- the places of slots that have an entry that isn't below the cursor

abbrev held_places : SpoolState → List OpenSlot → List ℕ
held_places s [] = []
held_places s (slot ∷ slots) = cond (is_confirmed s slot) (held_places s slots) (slot.place ∷ held_places s slots)

length-held : (s : SpoolState) (slots : List OpenSlot) → length (held_places s slots) ≡ count_held_in s slots
length-held s [] = refl
length-held s (slot ∷ slots) = by (is_confirmed s slot) (length-held s slots) where
  by : (b : Bool) → length (held_places s slots) ≡ count_held_in s slots
      → length (cond b (held_places s slots) (slot.place ∷ held_places s slots)) ≡ cond b (count_held_in s slots) (suc (count_held_in s slots))
  by true rest = rest
  by false rest = ap suc rest

-- one of them is that of such a slot, and the other way round
held_slot : (s : SpoolState) (slots : List OpenSlot) (p : ℕ) → list_any (eqb p) (held_places s slots) ≡ true
    → (slot : OpenSlot) × Contains slots slot × (slot.place ≡ p) × (is_confirmed s slot ≡ false)
held_slot s [] p h = absurd (cc h)
held_slot s (slot ∷ slots) p h = elim (cases_Bool (is_confirmed s slot)) [
  | inl is ↦ later (held_slot s slots p (subst (λ (b : Bool). list_any (eqb p) (cond b (held_places s slots) (slot.place ∷ held_places s slots)) ≡ true) is h))
  | inr off ↦ elim (or_cases (eqb p slot.place) (list_any (eqb p) (held_places s slots))
      (subst (λ (b : Bool). list_any (eqb p) (cond b (held_places s slots) (slot.place ∷ held_places s slots)) ≡ true) off h)) [
        | inl here ↦ (slot, (0, omega arith, refl), sym (eqb-true p slot.place here), off)
        | inr there ↦ later (held_slot s slots p there)
      ]
]
  where
    later : (found : OpenSlot) × Contains slots found × (found.place ≡ p) × (is_confirmed s found ≡ false)
        → (found : OpenSlot) × Contains (slot ∷ slots) found × (found.place ≡ p) × (is_confirmed s found ≡ false)
    later found = (found.0, (suc found.1.0, omega (arith, found.1.1), found.1.2), found.2, found.3)

slot_held : (s : SpoolState) (slots : List OpenSlot) (slot : OpenSlot) → Contains slots slot → is_confirmed s slot ≡ false
    → list_any (eqb slot.place) (held_places s slots) ≡ true
slot_held s [] slot there off = absurd (omega (arith, there.1))
slot_held s (first ∷ slots) slot there off = elim (contained first slots slot there) [
  | inl is ↦
      let first_off = subst (λ (x : OpenSlot). is_confirmed s x ≡ false) (sym is) off in
      subst (λ (b : Bool). list_any (eqb slot.place) (cond b (held_places s slots) (first.place ∷ held_places s slots)) ≡ true) (sym first_off)
      (or_left (eqb slot.place first.place) (list_any (eqb slot.place) (held_places s slots)) (eq-eqb slot.place first.place (λ i. (sym is i).place)))
  | inr behind ↦ by (is_confirmed s first) (slot_held s slots slot behind off)
]
  where
    right : (x y : Bool) → y ≡ true → (x || y) ≡ true
    right true y h = refl
    right false y h = h

    by : (b : Bool) → list_any (eqb slot.place) (held_places s slots) ≡ true
        → list_any (eqb slot.place) (cond b (held_places s slots) (first.place ∷ held_places s slots)) ≡ true
    by true rest = rest
    by false rest = right (eqb slot.place first.place) (list_any (eqb slot.place) (held_places s slots)) rest

off_held : (s : SpoolState) (p : ℕ) (slots : List OpenSlot) → AreElsewhere p slots → AllByRecursion (λ y. eqb p y ≡ false) (held_places s slots)
off_held s p [] h = tt
off_held s p (slot ∷ slots) h = by (is_confirmed s slot) (off_held s p slots (All-tail (λ x. x.place ≢ p) slot slots h)) where
  by : (b : Bool) → AllByRecursion (λ y. eqb p y ≡ false) (held_places s slots)
      → AllByRecursion (λ y. eqb p y ≡ false) (cond b (held_places s slots) (slot.place ∷ held_places s slots))
  by true rest = rest
  by false rest = (ne_eqb p slot.place (λ is. All-head (λ x. x.place ≢ p) slot slots h (sym is)), rest)

held_distinct : (s : SpoolState) (slots : List OpenSlot) → AreApart slots → IsDistinct eqb (held_places s slots)
unfolding IsDistinct
held_distinct s [] h = tt
held_distinct s (slot ∷ slots) h = by (is_confirmed s slot) (held_distinct s slots h.1) where
  by : (b : Bool) → IsDistinct eqb (held_places s slots) → IsDistinct eqb (cond b (held_places s slots) (slot.place ∷ held_places s slots))
  by true rest = rest
  by false rest = (off_held s slot.place slots h.0, rest)

-- slots of one place are one
one_slot : (slots : List OpenSlot) (x y : OpenSlot) → AreApart slots → Contains slots x → Contains slots y → x.place ≡ y.place → x ≡ y
one_slot [] x y apart cx cy is = absurd (omega (arith, cx.1))
one_slot (slot ∷ slots) x y apart cx cy is = elim (contained slot slots x cx) [
  | inl first ↦ elim (contained slot slots y cy) [
    | inl second ↦ sym first ∙ second
    | inr behind ↦ absurd (All-contains (λ z. z.place ≢ slot.place) slots y apart.0 behind (sym is ∙ (λ i. (sym first i).place)))
  ]
  | inr behind ↦ elim (contained slot slots y cy) [
    | inl second ↦ absurd (All-contains (λ z. z.place ≢ slot.place) slots x apart.0 behind (is ∙ (λ i. (sym second i).place)))
    | inr after ↦ one_slot slots x y apart.1 behind after is
  ]
]

-- ---- free slots

abbrev used_places : SpoolState → List ℕ
used_places s = s.active.place ∷ held_places s s.older

used_below : (s : SpoolState) → IsSound s → (q : ℕ) → list_any (eqb q) (used_places s) ≡ true → q < s.slots
used_below s sound q h = elim (or_cases (eqb q s.active.place) (list_any (eqb q) (held_places s s.older)) h) [
  | inl here ↦ omega (arith, eqb-true q s.active.place here, sound.active.place)
  | inr there ↦
      let slot = held_slot s s.older q there in
      omega (arith, slot.2, (All-contains (IsOpenSlot s.slots) s.older slot.0 sound.older slot.1).place)
]

used_distinct : (s : SpoolState) → IsSound s → IsDistinct eqb (used_places s)
unfolding IsDistinct
used_distinct s sound = (off_held s s.active.place s.older sound.apart_active, held_distinct s s.older sound.apart)

unheld : (s : SpoolState) (p : ℕ) → IsSound s → IsFree s p → list_any (eqb p) (used_places s) ≡ false
unheld s p sound (inl closed) =
    or_from (eqb p s.active.place) (list_any (eqb p) (held_places s s.older)) (ne_eqb p s.active.place (λ is. closed.inactive (sym is)))
    (off_all p (held_places s s.older) (off_held s p s.older closed.elsewhere))
unheld s p sound (inr passed) =
    or_from (eqb p s.active.place) (list_any (eqb p) (held_places s s.older))
    (ne_eqb p s.active.place (λ is. All-contains (λ z. z.place ≢ s.active.place) s.older passed.slot sound.apart_active passed.older (passed.here ∙ is)))
    (elim (cases_Bool (list_any (eqb p) (held_places s s.older))) [
      | inl held ↦
          let slot = held_slot s s.older p held in
          let same = one_slot s.older slot.0 passed.slot sound.apart slot.1 passed.older (slot.2 ∙ sym passed.here) in
          absurd (both_ways (is_confirmed s passed.slot) (subst (λ (x : OpenSlot). is_confirmed s x ≡ false) same slot.3) (le-leb (end_of passed.slot) s.cursor passed.below))
      | inr free ↦ free
    ])

free_from : (s : SpoolState) (p : ℕ) → p < s.slots → list_any (eqb p) (used_places s) ≡ false → IsFree s p
free_from s p below free =
    let parts = or_parts (eqb p s.active.place) (list_any (eqb p) (held_places s s.older)) free in
    elim (slot_of_place p s.older) [
      | inl elsewhere ↦ inl (record { within = below; inactive = λ is. eqb-false p s.active.place parts.0 (sym is); elsewhere = elsewhere })
      | inr slot ↦ elim (cases_Bool (is_confirmed s slot.0)) [
        | inl is ↦ inr (record { slot = slot.0; older = slot.1; here = slot.2; below = leb-true (end_of slot.0) s.cursor is })
        | inr off ↦ absurd (both_ways (list_any (eqb p) (held_places s s.older)) parts.1
            (subst (λ (q : ℕ). list_any (eqb q) (held_places s s.older) ≡ true) slot.2 (slot_held s s.older slot.0 slot.1 off)))
      ]
    ]

pub counted_free : (s : SpoolState) → IsSound s → AreFree s (free_slots_in s)
counted_free s sound = record {
  places = others s.slots (used_places s);
  distinct = others_distinct s.slots (used_places s);
  each = λ place. (
    λ h. let found = others_in s.slots (used_places s) place h in free_from s place found.0 found.1,
    λ h. in_others s.slots (used_places s) place (elim h [
      | inl closed ↦ closed.within
      | inr passed ↦ omega (arith, passed.here, (All-contains (IsOpenSlot s.slots) s.older passed.slot sound.older passed.older).place)
    ]) (unheld s place sound h),
  );
  many = let all = all_counted s.slots (used_places s) (used_distinct s sound) (used_below s sound) in omega (arith, all, length-held s s.older);
}
