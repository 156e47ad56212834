-- What changes of the list of ids keep, and what its order tells.
use Rattle.std.proofs.Common.{◌≡◌, inl, inr, ℕ, ◌+◌, ◌<◌, ◌≤◌, Bool, true, false, cond, List, [], ◌∷◌, ◌++◌, map, refl, sym, ◌∙◌, ap, arith}
use Rattle.std.specs.Prelude.{◌==◌, ◌&&◌, ◌||◌, not, filter}
use Rattle.std.specs.List.{list_any}
use Rattle.std.proofs.lemmas.Bool.{cases_eq, cases_Bool, eqb-true, eq-eqb, ne_eqb, and_parts, and_left, and_right, and_cases, or_parts, or_from, not-false}
use Rattle.std.proofs.lemmas.List.Sums.{sum_by_push}
use Rattle.hec_ids.specs.Table.{Held, AreRising, is_of, holds, holds_unsettled, count_of}
use Rattle.hec_ids.specs.Rows.{unsettled, settled_at}
use Rattle.hec_ids.specs.Kept.{HasOneMore}
use Rattle.hec_ids.proofs.CountLaws.{count_of-cons}

pub rising_end : (from to : ℕ) (held : List Held) → AreRising from to held → from ≤ to
rising_end from to [] h = h
rising_end from to (x ∷ held) h = omega (arith, h.0, h.1)

pub rising_from : (low from to : ℕ) (held : List Held) → low ≤ from → AreRising from to held → AreRising low to held
rising_from low from to [] le h = omega (arith, h)
rising_from low from to (x ∷ held) le h = (omega (arith, h.0), h.1, h.2)

pub rising_filter : (p : Held → Bool) (from to : ℕ) (held : List Held) → AreRising from to held → AreRising from to (filter p held)
rising_filter p from to [] h = h
rising_filter p from to (x ∷ held) h = by (p x) (rising_filter p (x.id + 1) to held h.2)
  where
    by : (b : Bool) → AreRising (x.id + 1) to (filter p held) → AreRising from to (cond b (x ∷ filter p held) (filter p held))
    by true r = (h.0, h.1, r)
    by false r = rising_from from (x.id + 1) to (filter p held) (omega (arith, h.0)) r

pub rising_settled : (channel id from to : ℕ) (held : List Held) → AreRising from to held → AreRising from to (map (λ h. settled_at channel id h) held)
rising_settled channel id from to [] h = h
rising_settled channel id from to (x ∷ held) h = by (is_of channel id x) (rising_settled channel id (x.id + 1) to held h.2)
  where
    by : (b : Bool) → AreRising (x.id + 1) to (map (λ y. settled_at channel id y) held) → AreRising from to (cond b (record { channel = x.channel; id = x.id; settled = true }) x ∷ map (λ y. settled_at channel id y) held)
    by true r = (h.0, h.1, r)
    by false r = (h.0, h.1, r)

pub rising_push : (channel from to : ℕ) (held : List Held) → AreRising from to held → AreRising from (to + 1) (held ++ unsettled channel to ∷ [])
rising_push channel from to [] h = (h, omega arith, omega arith)
rising_push channel from to (x ∷ held) h = (h.0, omega (arith, h.1), rising_push channel (x.id + 1) to held h.2)

-- an id below all is not held
pub none_below : (channel id from to : ℕ) (held : List Held) → AreRising from to held → id < from → holds channel id held ≡ false
none_below channel id from to [] h lt = refl
none_below channel id from to (x ∷ held) h lt =
    or_from (is_of channel id x) (holds channel id held)
    (and_right (x.channel == channel) (x.id == id) (ne_eqb x.id id (λ e. omega (arith, h.0))))
    (none_below channel id (x.id + 1) to held h.2 (omega (arith, h.0)))

-- nor is the next one
pub none_next : (channel from to : ℕ) (held : List Held) → AreRising from to held → holds channel to held ≡ false
none_next channel from to [] h = refl
none_next channel from to (x ∷ held) h =
    or_from (is_of channel to x) (holds channel to held)
    (and_right (x.channel == channel) (x.id == to) (ne_eqb x.id to (λ e. omega (arith, h.1))))
    (none_next channel (x.id + 1) to held h.2)

-- an id that is not held is not held in any state
pub none_passes : (p : Held → Bool) (channel id : ℕ) (held : List Held) → holds channel id held ≡ false → list_any (λ h. is_of channel id h && p h) held ≡ false
none_passes p channel id [] none = refl
none_passes p channel id (x ∷ held) none =
    let parts = or_parts (is_of channel id x) (holds channel id held) none in
    or_from (is_of channel id x && p x) (list_any (λ h. is_of channel id h && p h) held) (and_left (is_of channel id x) (p x) parts.0) (none_passes p channel id held parts.1)

pub some_passes : (p : Held → Bool) (channel id : ℕ) (held : List Held) → list_any (λ h. is_of channel id h && p h) held ≡ true → holds channel id held ≡ true
some_passes p channel id held some = elim (cases_Bool (holds channel id held)) [
  | inl is ↦ is
  | inr none ↦ let never : false ≡ true = sym (none_passes p channel id held none) ∙ some in absurd (cc)
]

pub filter_none : (channel id : ℕ) (held : List Held) → holds channel id held ≡ false → filter (λ h. not (is_of channel id h)) held ≡ held
filter_none channel id [] none = refl
filter_none channel id (x ∷ held) none =
    let parts = or_parts (is_of channel id x) (holds channel id held) none in
    let rest = filter (λ h. not (is_of channel id h)) held in
    ap (λ b. cond (not b) (x ∷ rest) rest) parts.0 ∙ ap (λ (l : List Held). x ∷ l) (filter_none channel id held parts.1)

settled_same : (channel id : ℕ) (x : Held) → (is_of channel id x && not x.settled) ≡ false → settled_at channel id x ≡ x
settled_same channel id x none = elim (and_cases (is_of channel id x) (not x.settled) none) [
  | inl other ↦ ap (λ (b : Bool). cond b (record { channel = x.channel; id = x.id; settled = true }) x) other
  | inr done ↦ by (is_of channel id x) (not-false x.settled done)
] where
  by : (b : Bool) → x.settled ≡ true → cond b (record { channel = x.channel; id = x.id; settled = true }) x ≡ x
  by true e = λ i. record { channel = x.channel; id = x.id; settled = sym e i }
  by false e = refl

pub settle_none : (channel id : ℕ) (held : List Held) → holds_unsettled channel id held ≡ false → map (λ h. settled_at channel id h) held ≡ held
settle_none channel id [] none = refl
settle_none channel id (x ∷ held) none =
    let parts = or_parts (is_of channel id x && not x.settled) (holds_unsettled channel id held) none in
    λ i. settled_same channel id x parts.0 i ∷ settle_none channel id held parts.1 i

pub flipped : (a b : ℕ) → (a == b) ≡ (b == a)
flipped a b = elim (cases_eq a b) [
  | inl same ↦ eq-eqb a b same ∙ sym (eq-eqb b a (sym same))
  | inr differ ↦ ne_eqb a b differ ∙ sym (ne_eqb b a (λ s. differ (sym s)))
]

-- one id more at the end
pub one_more : (channel id : ℕ) (held : List Held) → HasOneMore channel held (held ++ unsettled channel id ∷ [])
one_more channel id held q = sum_by_push (λ x. cond (x.channel == q) 1 0) held (unsettled channel id) ∙ ap (λ b. count_of q held + cond b 1 0) (flipped channel q)

-- where the channel holds the id, it holds one id less without it
pub one_gone : (channel id from to : ℕ) (held : List Held) → AreRising from to held → holds channel id held ≡ true → HasOneMore channel (filter (λ h. not (is_of channel id h)) held) held
one_gone channel id from to [] h is q = absurd (cc)
one_gone channel id from to (x ∷ held) h is q = by (is_of channel id x) refl (λ more. one_gone channel id (x.id + 1) to held h.2 more q)
  where
    by : (b : Bool) → is_of channel id x ≡ b → (holds channel id held ≡ true → count_of q held ≡ count_of q (filter (λ y. not (is_of channel id y)) held) + cond (q == channel) 1 0) → count_of q (x ∷ held) ≡ count_of q (cond (not b) (x ∷ filter (λ y. not (is_of channel id y)) held) (filter (λ y. not (is_of channel id y)) held)) + cond (q == channel) 1 0
    by true e there =
        let parts = and_parts (x.channel == channel) (x.id == id) e in
        let none = none_below channel id (x.id + 1) to held h.2 (omega (arith, eqb-true x.id id parts.1)) in
        let here = eqb-true x.channel channel parts.0 in
        let flip : (x.channel == q) ≡ (q == channel) = ap (λ n. n == q) here ∙ flipped channel q in
        let a = count_of-cons q x held in
        let b : count_of q (filter (λ y. not (is_of channel id y)) held) ≡ count_of q held = ap (λ (l : List Held). count_of q l) (filter_none channel id held none) in
        let c : cond {A = ℕ} (x.channel == q) 1 0 ≡ cond {A = ℕ} (q == channel) 1 0 = ap (λ (t : Bool). cond {A = ℕ} t 1 0) flip in
        let whole : count_of q (x ∷ held) ≡ count_of q (filter (λ y. not (is_of channel id y)) held) + cond (q == channel) 1 0 = omega arith in
        whole
    by false e there =
        let more : holds channel id held ≡ true = sym (ap (λ b. b || holds channel id held) e) ∙ is in
        let a = count_of-cons q x held in
        let b = count_of-cons q x (filter (λ y. not (is_of channel id y)) held) in
        let c = there more in
        let whole : count_of q (x ∷ held) ≡ count_of q (x ∷ filter (λ y. not (is_of channel id y)) held) + cond (q == channel) 1 0 = omega arith in
        whole
