-- Ids asked one after another, as ids asked at once.
use Rattle.std.proofs.Common.{◌≡◌, inl, inr, ℕ, zero, suc, length, take, set, get_or, ◌+◌, ◌<◌, Bool, true, false, cond, List, [], ◌∷◌, ◌++◌, refl, sym, ◌∙◌, ap, subst, arith}
use Rattle.std.specs.Prelude.{◌==◌, ◌&&◌, ◌||◌, not, filter, nat_eq}
use Rattle.std.specs.List.{IsDistinct, list_any}
use Rattle.std.proofs.lemmas.Grind.{take_at_read, take-set_at}
use Rattle.std.proofs.lemmas.Map.Keys.{IsDistinct-tail, apart_from_distinct}
use Rattle.std.proofs.lemmas.Bool.{cases_Bool, eqb-true, and_parts, and_right, or_parts, or_from}
use Rattle.std.proofs.lemmas.List.{map-append}
use Rattle.std.proofs.lemmas.List.Folds.{list_any-append}
use Rattle.hec_ids.specs.Table.{Held, Table, AreRising, is_of, holds_settled}
use Rattle.hec_ids.specs.Rows.{is_told, Asks}
use Rattle.hec_ids.proofs.HeldLaws.{flipped, none_below, none_passes, filter_none}

-- nothing is asked
pub told_none : (channel : ℕ) (held : List Held) → filter (λ h. not (is_told channel [] h)) held ≡ held
told_none channel [] = refl
told_none channel (x ∷ held) = ap (λ b. cond (not b) (x ∷ filter (λ h. not (is_told channel [] h)) held) (filter (λ h. not (is_told channel [] h)) held)) (and_right x.settled false refl) ∙ ap (λ (l : List Held). x ∷ l) (told_none channel held)

pub asks_none : (t : Table) (channel : ℕ) → Asks t channel [] [] t
asks_none t channel = (refl, λ i. record { run = t.run; next = t.next; held = sym (told_none channel t.held) i })

-- an id that isn't held settled takes nothing away
pub told_not : (channel id : ℕ) (held : List Held) → holds_settled channel id held ≡ false → filter (λ h. not (is_told channel (id ∷ []) h)) held ≡ held
told_not channel id [] none = refl
told_not channel id (x ∷ held) none =
    let parts = or_parts (is_of channel id x && x.settled) (holds_settled channel id held) none in
    ap (λ b. cond (not b) (x ∷ filter (λ h. not (is_told channel (id ∷ []) h)) held) (filter (λ h. not (is_told channel (id ∷ []) h)) held)) (turned x.settled (is_of channel id x) ∙ parts.0)
    ∙ ap (λ (l : List Held). x ∷ l) (told_not channel id held parts.1)
  where
    turned : (s b : Bool) → (s && (b || false)) ≡ (b && s)
    turned true true = refl
    turned true false = refl
    turned false true = refl
    turned false false = refl

-- one that is held settled goes whole
pub told_one : (channel id from to : ℕ) (held : List Held) → AreRising from to held → holds_settled channel id held ≡ true → filter (λ h. not (is_of channel id h)) held ≡ filter (λ h. not (is_told channel (id ∷ []) h)) held
told_one channel id from to [] h is = refl
told_one channel id from to (x ∷ held) h is = by (is_of channel id x) x.settled refl refl (told_one channel id (x.id + 1) to held h.2) is
  where
    by : (b s : Bool) → is_of channel id x ≡ b → x.settled ≡ s → (holds_settled channel id held ≡ true → filter (λ y. not (is_of channel id y)) held ≡ filter (λ y. not (is_told channel (id ∷ []) y)) held) → ((b && s) || holds_settled channel id held) ≡ true → cond (not b) (x ∷ filter (λ y. not (is_of channel id y)) held) (filter (λ y. not (is_of channel id y)) held) ≡ cond (not (s && (b || false))) (x ∷ filter (λ y. not (is_told channel (id ∷ []) y)) held) (filter (λ y. not (is_told channel (id ∷ []) y)) held)
    by true true this e more settled =
        let parts = and_parts (x.channel == channel) (x.id == id) this in
        let none = none_below channel id (x.id + 1) to held h.2 (omega (arith, eqb-true x.id id parts.1)) in
        filter_none channel id held none ∙ sym (told_not channel id held (none_passes (λ y. y.settled) channel id held none))
    by true false this e more settled =
        let parts = and_parts (x.channel == channel) (x.id == id) this in
        let none = none_below channel id (x.id + 1) to held h.2 (omega (arith, eqb-true x.id id parts.1)) in
        let never : false ≡ true = sym (none_passes (λ y. y.settled) channel id held none) ∙ settled in
        absurd (cc)
    by false s this e more settled =
        ap (λ (l : List Held). x ∷ l) (more settled)
        ∙ sym (ap (λ b. cond (not b) (x ∷ filter (λ y. not (is_told channel (id ∷ []) y)) held) (filter (λ y. not (is_told channel (id ∷ []) y)) held)) (and_right s false refl))

-- an id that is none of these
not_among : (channel id : ℕ) (ids : List ℕ) (x : Held) → is_of channel id x ≡ true → list_any (nat_eq id) ids ≡ false → list_any (λ k. is_of channel k x) ids ≡ false
not_among channel id [] x this apart = refl
not_among channel id (k ∷ ids) x this apart =
    let same = eqb-true x.id id (and_parts (x.channel == channel) (x.id == id) this).1 in
    let parts = or_parts (nat_eq id k) (list_any (nat_eq id) ids) apart in
    or_from (is_of channel k x) (list_any (λ j. is_of channel j x) ids)
    (and_right (x.channel == channel) (x.id == k) (ap (λ n. n == k) same ∙ parts.0))
    (not_among channel id ids x this parts.1)

-- an id that wasn't asked before is told as before
untold : (channel id : ℕ) (ids : List ℕ) (held : List Held) → list_any (nat_eq id) ids ≡ false → holds_settled channel id (filter (λ h. not (is_told channel ids h)) held) ≡ holds_settled channel id held
untold channel id ids [] apart = refl
untold channel id ids (x ∷ held) apart = by (is_told channel ids x) refl (untold channel id ids held apart)
  where
    by : (t : Bool) → is_told channel ids x ≡ t → holds_settled channel id (filter (λ h. not (is_told channel ids h)) held) ≡ holds_settled channel id held → holds_settled channel id (cond (not t) (x ∷ filter (λ h. not (is_told channel ids h)) held) (filter (λ h. not (is_told channel ids h)) held)) ≡ ((is_of channel id x && x.settled) || holds_settled channel id held)
    by true e r = elim (cases_Bool (is_of channel id x)) [
      | inl this ↦ let never : false ≡ true = sym (and_right x.settled (list_any (λ k. is_of channel k x) ids) (not_among channel id ids x this apart)) ∙ e in absurd (cc)
      | inr other ↦ r ∙ sym (ap (λ b. (b && x.settled) || holds_settled channel id held) other)
    ]
    by false e r = ap (λ b. (is_of channel id x && x.settled) || b) r

filter-filter : (p q r : Held → Bool) → ((x : Held) → r x ≡ (p x && q x)) → (xs : List Held) → filter q (filter p xs) ≡ filter r xs
filter-filter p q r both [] = refl
filter-filter p q r both (x ∷ xs) = by (p x) (both x) (filter-filter p q r both xs)
  where
    by : (a : Bool) → r x ≡ (a && q x) → filter q (filter p xs) ≡ filter r xs → filter q (cond a (x ∷ filter p xs) (filter p xs)) ≡ cond (r x) (x ∷ filter r xs) (filter r xs)
    by true f ih = (λ i. cond (q x) (x ∷ ih i) (ih i)) ∙ sym (ap (λ c. cond c (x ∷ filter r xs) (filter r xs)) f)
    by false f ih = ih ∙ sym (ap (λ c. cond c (x ∷ filter r xs) (filter r xs)) f)

neither : (s a l : Bool) → not (s && (a || l)) ≡ (not (s && a) && not (s && l))
neither false a l = refl
neither true true l = refl
neither true false l = refl

told_both : (channel id : ℕ) (ids : List ℕ) (held : List Held) → filter (λ h. not (is_told channel (id ∷ []) h)) (filter (λ h. not (is_told channel ids h)) held) ≡ filter (λ h. not (is_told channel (ids ++ id ∷ []) h)) held
told_both channel id ids held = filter-filter (λ h. not (is_told channel ids h)) (λ h. not (is_told channel (id ∷ []) h)) (λ h. not (is_told channel (ids ++ id ∷ []) h))
    (λ x. ap (λ b. not (x.settled && b)) (list_any-append (λ k. is_of channel k x) ids (id ∷ [])) ∙ neither x.settled (list_any (λ k. is_of channel k x) ids) (is_of channel id x || false)) held

pub asks_more : (s t u : Table) (channel id : ℕ) (ids : List ℕ) (known : List Bool) (b : Bool) → Asks s channel ids known t → Asks t channel (id ∷ []) (b ∷ []) u → list_any (nat_eq id) ids ≡ false → Asks s channel (ids ++ id ∷ []) (known ++ b ∷ []) u
asks_more s t u channel id ids known b first last apart =
    let now : b ∷ [] ≡ holds_settled channel id s.held ∷ [] = last.0 ∙ ap (λ (w : Table). holds_settled channel id w.held ∷ []) first.1 ∙ ap (λ (v : Bool). v ∷ []) (untold channel id ids s.held apart) in
    let then : u ≡ record { run = s.run; next = s.next; held = filter (λ h. not (is_told channel (id ∷ []) h)) (filter (λ h. not (is_told channel ids h)) s.held) } = last.1 ∙ ap (λ (w : Table). record { run = w.run; next = w.next; held = filter (λ h. not (is_told channel (id ∷ []) h)) w.held }) first.1 in (
      (λ i. first.0 i ++ now i) ∙ sym (map-append (λ k. holds_settled channel k s.held) ids (id ∷ [])),
      then ∙ (λ i. record { run = s.run; next = s.next; held = told_both channel id ids s.held i }),
    )

-- of distinct ids, none stands before its place
pub not_before : (ids : List ℕ) (i : ℕ) → IsDistinct nat_eq ids → i < length ids → list_any (nat_eq (get_or ids i 0)) (take i ids) ≡ false
not_before [] i distinct lt = absurd (omega arith)
not_before (x ∷ ids) zero distinct lt = refl
not_before (x ∷ ids) (suc i) distinct lt =
    or_from (nat_eq (get_or ids i 0) x) (list_any (nat_eq (get_or ids i 0)) (take i ids))
    (flipped (get_or ids i 0) x ∙ apart_from_distinct nat_eq (x ∷ ids) 0 (suc i) 0 distinct (omega arith) lt)
    (not_before ids i (IsDistinct-tail nat_eq x ids distinct) (omega arith))

-- one id more is asked
pub asks_next : (s t u : Table) (channel i : ℕ) (ids : List ℕ) (known : List Bool) (b : Bool) → IsDistinct nat_eq ids → i < length ids → length known ≡ length ids → Asks s channel (take i ids) (take i known) t → Asks t channel (get_or ids i 0 ∷ []) (b ∷ []) u → Asks s channel (take (i + 1) ids) (take (i + 1) (set known i b)) u
asks_next s t u channel i ids known b distinct lt equal first last =
    let whole = asks_more s t u channel (get_or ids i 0) (take i ids) (take i known) b first last (not_before ids i distinct lt) in
    let more : take i ids ++ get_or ids i 0 ∷ [] ≡ take (i + 1) ids = sym (take_at_read ids i 0 lt).1 in
    let written : take i known ++ b ∷ [] ≡ take (i + 1) (set known i b) = sym (take-set_at known i (i + 1) b refl (omega arith)) in
    subst (λ (xs : List ℕ). Asks s channel xs (take (i + 1) (set known i b)) u) more (subst (λ (bs : List Bool). Asks s channel (take i ids ++ get_or ids i 0 ∷ []) bs u) written whole)
