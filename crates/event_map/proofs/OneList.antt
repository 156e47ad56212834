-- A text is whole pairs in one way only.
use Rattle.std.proofs.Common.{◌≡◌, ℕ, ◌+◌, ◌^◌, ◌<◌, ◌≤◌, List, [], ◌∷◌, length, refl, sym, ◌∙◌, ap, ap₂, arith, length-append}
use Rattle.event_form.specs.Event.{pair_text, pairs_text, ArePairs}
use Rattle.event_form.specs.Pairs.{BeginsPair}
use Rattle.event_form.proofs.Strings.{one_string, pair_from_text, length-pair_text}

-- the pair that bytes begin with, and what is after it
pub same_pair : (p q : List ℕ × List ℕ) (b x y : List ℕ) → BeginsPair p b x → BeginsPair q b y → (p ≡ q) × (x ≡ y)
same_pair p q b x y h k =
    let key = one_string p.0 q.0 b h.middle k.middle h.key k.key in
    let value = one_string p.1 q.1 h.middle x y h.value (rw (key.1) k.value) in
    (ap₂ (λ (s t : List ℕ). (s, t)) key.0 value.0, value.1)

pub length_behind : (p : List ℕ × List ℕ) (ps : List (List ℕ × List ℕ)) → length (pairs_text (p ∷ ps)) ≡ 8 + length p.0 + length p.1 + length (pairs_text ps)
length_behind p ps = omega (arith, length-append (pair_text p) (pairs_text ps), length-pair_text p)

-- of an empty text, no pair
pub no_pairs : (ps : List (List ℕ × List ℕ)) → length (pairs_text ps) ≡ 0 → ps ≡ []
no_pairs [] h = refl
no_pairs (p ∷ ps) h = absurd (omega (arith, length_behind p ps))

-- the pairs of a text
pub same_pairs : (ps qs : List (List ℕ × List ℕ)) → length (pairs_text ps) < 2 ^ 32 → pairs_text ps ≡ pairs_text qs → ps ≡ qs
same_pairs ps [] short h = no_pairs ps (ap length h)
same_pairs [] (q ∷ qs) short h = sym (no_pairs (q ∷ qs) (sym (ap length h)))
same_pairs (p ∷ ps) (q ∷ qs) short h =
    let first = pair_from_text p (pairs_text (p ∷ ps)) (pairs_text ps) short refl in
    let other = pair_from_text q (pairs_text (p ∷ ps)) (pairs_text qs) short h in
    let same = same_pair p q (pairs_text (p ∷ ps)) (pairs_text ps) (pairs_text qs) first other in
    ap₂ (λ (r : List ℕ × List ℕ) (rs : List (List ℕ × List ℕ)). r ∷ rs) same.0 (same_pairs ps qs (omega (arith, length_behind p ps)) same.1)

-- the pairs of a text that an event may have
pub one_list : (text : List ℕ) → length text ≤ 131072 → (h k : ArePairs text) → h.pairs ≡ k.pairs
one_list text short h k = same_pairs h.pairs k.pairs (omega (arith, ap length h.whole)) (sym h.whole ∙ k.whole)

-- what is after a pair is shorter
pub shorter : (pair : List ℕ × List ℕ) (rest behind : List ℕ) → BeginsPair pair rest behind → length behind < length rest
shorter pair rest behind h = omega (arith, ap length h.key.whole, ap length h.value.whole, length-append pair.0 h.middle, length-append pair.1 behind)
