-- Where a fault is found: at the character that the faulty byte leaves unfinished.
use Rattle.std.proofs.Common.{◌≡◌, ◌≢◌, ℕ, ◌+◌, ◌-◌, ◌≤◌, ◌<◌, Bool, true, false, cond, eqb, List, [], ◌∷◌, ◌++◌, length, get_or, refl, sym, ap, ◌∙◌, suc, zero, subst, inl, inr, arith, Some, None}
use Rattle.std.specs.Prelude.{slice_range}
use Rattle.std.specs.List.{AllByRecursion}
use Rattle.std.proofs.lemmas.List.Edits.{length-between, get_or-between}
use Rattle.json_span.specs.Numbers.{between}
use Rattle.json_span.specs.Strings.{Bounds, Any, FromA0, To9F, From90, To8F, within, Lead, lead, lead_of, AreTail, Wide, IsChar, IsBegun}
use Rattle.json_span.specs.Json.{is_space, AreSpaces}
use Rattle.json_span.specs.Machine.{IsLastLead, State, Value, Going, run, token_in, is_tail}
use Rattle.json_span.specs.Spans.{Stretch, IsFaultPlace}
use Rattle.json_span.proofs.TokenForth.{lead_low, between_high}
use Rattle.json_span.proofs.TailLaws.{lead_not_space}
use Rattle.json_span.proofs.TailRuns.{tail_begun, run_begun}
use Rattle.json_span.proofs.Fronts.{run_front}
use Rattle.json_span.proofs.Stretches.{range_split, range_parts, space_within}

-- a begun character has at most three bytes, and its first byte is its last one of 192 or more
pub record BegunFacts (x : List ℕ) : Type 0 where
  pub first : ℕ
  pub seen : List ℕ
  pub kind : Lead
  pub text : x ≡ first ∷ seen
  pub lead_is : lead first ≡ Some kind
  pub high : 192 ≤ first
  pub short : length seen ≤ 2
  pub low : AllByRecursion (λ c. c < 192) seen

within_low : (w : Bounds) (c : ℕ) → within w c ≡ true → c < 192
within_low Any c e = omega (arith, between_high 128 191 c e)
within_low FromA0 c e = omega (arith, between_high 160 191 c e)
within_low To9F c e = omega (arith, between_high 128 159 c e)
within_low From90 c e = omega (arith, between_high 144 191 c e)
within_low To8F c e = omega (arith, between_high 128 143 c e)

tail_low : (w : Bounds) (n : ℕ) (x : List ℕ) → AreTail w n x → AllByRecursion (λ c. c < 192) x × (length x ≡ n + 1)
tail_low w zero x h = subst (λ z. AllByRecursion (λ c. c < 192) z × (length z ≡ 1)) (sym h.1) ((within_low w h.0 h.2, tt), refl)
tail_low w (suc n) x h =
    let r = tail_low Any n h.1 h.4 in
    let l : length (h.0 ∷ h.1) ≡ suc n + 1 = omega (arith, r.1) in
    subst (λ z. AllByRecursion (λ c. c < 192) z × (length z ≡ suc n + 1)) (sym h.2) ((within_low w h.0 h.3, r.0), l)

lead_more : (c : ℕ) (l : Lead) → lead c ≡ Some l → l.more ≤ 2
unfolding lead
lead_more c l e = go (between 194 223 c) (eqb c 224) (eqb c 237) (between 225 239 c) (eqb c 240) (between 241 243 c) (eqb c 244) e
  where
    is : (b : Bounds) (n : ℕ) → n ≤ 2 → lead_of b n ≡ Some l → l.more ≤ 2
    is b n h e = let q : n ≡ l.more = cc in omega (arith, q, h)

    go : (p q r s t u v : Bool) → cond p (lead_of Any 0) (cond q (lead_of FromA0 1) (cond r (lead_of To9F 1) (cond s (lead_of Any 1) (cond t (lead_of From90 2) (cond u (lead_of Any 2) (cond v (lead_of To8F 2) None)))))) ≡ Some l → l.more ≤ 2
    go true q r s t u v e = is Any 0 (omega arith) e
    go false true r s t u v e = is FromA0 1 (omega arith) e
    go false false true s t u v e = is To9F 1 (omega arith) e
    go false false false true t u v e = is Any 1 (omega arith) e
    go false false false false true u v e = is From90 2 (omega arith) e
    go false false false false false true v e = is Any 2 (omega arith) e
    go false false false false false false true e = is To8F 2 (omega arith) e
    go false false false false false false false e = cc

front_low : (x y : List ℕ) → AllByRecursion (λ c. c < 192) (x ++ y) → AllByRecursion (λ c. c < 192) x
front_low [] y a = tt
front_low (c ∷ x) y a = (a.0, front_low x y a.1)

low_at : (x : List ℕ) (k : ℕ) → AllByRecursion (λ c. c < 192) x → k < length x → get_or x k 0 < 192
low_at [] k a l = absurd (omega (arith, l))
low_at (c ∷ x) zero a l = a.0
low_at (c ∷ x) (suc k) a l = low_at x k a.1 (omega (arith, l))

length_front : (x y : List ℕ) → y ≢ [] → length x < length (x ++ y)
length_front [] [] h = absurd (h refl)
length_front [] (c ∷ y) h = omega arith
length_front (c ∷ x) y h = let r = length_front x y h in omega (arith, r)

begun_facts : (x : List ℕ) → IsBegun x → BegunFacts x
begun_facts [] b = absurd (b.2 refl)
begun_facts (c ∷ y) b = record {
  first = c;
  seen = y;
  kind = i.2;
  text = refl;
  lead_is = l;
  high = let n : c < 194 → ⊥ = λ h. let k : lead c ≡ None = lead_low c h in cc in omega (arith, n);
  short = let m : length y < length (y ++ b.0) = length_front y b.0 b.3 in let o : length (y ++ b.0) ≡ i.2.more + 1 = ap length rest ∙ t.1 in omega (arith, m, o, lead_more c i.2 l);
  low = front_low y b.0 (subst (AllByRecursion (λ c. c < 192)) (sym rest) t.0);
}
  where
    i : IsChar Wide ((c ∷ y) ++ b.0)
    i = b.1

    l : lead c ≡ Some i.2
    l = let same : c ≡ i.0 = let q = i.3 in cc in subst (λ z. lead z ≡ Some i.2) (sym same) i.4

    rest : y ++ b.0 ≡ i.1
    rest = let q = i.3 in cc

    t : AllByRecursion (λ c. c < 192) i.1 × (length i.1 ≡ i.2.more + 1)
    t = tail_low i.2.bounds i.2.more i.1 i.5

-- the same of places
pub record BegunAt (bytes : List ℕ) (from to : ℕ) : Type 0 where
  pub order : from < to
  pub short : to ≤ from + 3
  pub high : 192 ≤ get_or bytes from 0
  pub space : is_space (get_or bytes from 0) ≡ false
  pub low : (j : ℕ) → from < j → j < to → get_or bytes j 0 < 192

pub begun_at : (bytes : List ℕ) (from to : ℕ) → Stretch IsBegun bytes from to → BegunAt bytes from to
begun_at bytes from to s =
    let f = begun_facts (slice_range bytes from to) s.text in
    let l : length (slice_range bytes from to) ≡ to - from = length-between bytes from to s.bound in
    let m : length (slice_range bytes from to) ≡ length (f.first ∷ f.seen) = ap length f.text in
    let o : from < to = omega (arith, l, m) in
    let g : get_or (slice_range bytes from to) 0 0 ≡ get_or bytes (from + 0) 0 = get_or-between bytes from to 0 0 (omega (arith, o)) in
    let z : from + 0 ≡ from = omega arith in
    let q : f.first ≡ get_or bytes from 0 = sym (ap (λ x. get_or x 0 0) f.text) ∙ g ∙ ap (λ x. get_or bytes x 0) z in
    record {
      order = o;
      short = omega (arith, l, m, f.short);
      high = subst (λ x. 192 ≤ x) q f.high;
      space = subst (λ x. is_space x ≡ false) q (lead_not_space f.first f.kind f.lead_is);
      low = λ j a b.
          let i : from + suc (j - from - 1) ≡ j = omega (arith, a) in
          let h : get_or (slice_range bytes from to) (suc (j - from - 1)) 0 ≡ get_or bytes j 0 = get_or-between bytes from to (suc (j - from - 1)) 0 (omega (arith, i, b)) ∙ ap (λ x. get_or bytes x 0) i in
          let k : get_or f.seen (j - from - 1) 0 ≡ get_or bytes j 0 = sym (ap (λ x. get_or x (suc (j - from - 1)) 0) f.text) ∙ h in
          subst (λ x. x < 192) k (low_at f.seen (j - from - 1) f.low (omega (arith, l, m, a, b)));
    }

-- Two begun characters that end at one place begin at one place.
pub begun_only : (bytes : List ℕ) (a b to : ℕ) → Stretch IsBegun bytes a to → Stretch IsBegun bytes b to → a ≡ b
begun_only bytes a b to s t =
    let f = begun_at bytes a to s in
    let g = begun_at bytes b to t in
    let n : a < b → ⊥ = λ h. let l : get_or bytes b 0 < 192 = f.low b h g.order in omega (arith, l, g.high) in
    let m : b < a → ⊥ = λ h. let l : get_or bytes a 0 < 192 = g.low a h f.order in omega (arith, l, f.high) in
    omega (arith, n, m)

place_tail : (levels : ℕ) (bytes : List ℕ) (at start i place : ℕ) (s : State) → Stretch AreSpaces bytes at start → start ≤ i → i ≤ length bytes → run (Value levels []) (slice_range bytes start i) ≡ Going s → is_tail (token_in s) ≡ true → IsLastLead bytes i place → IsFaultPlace bytes at i place
place_tail levels bytes at start i place s w a b r t f =
    let c = tail_begun s (slice_range bytes start i) levels r t in
    let p = range_parts bytes c.0 c.1 start i a b c.2 in
    let x : Stretch IsBegun bytes (start + length c.0) i = record { order = p.0; bound = b; text = subst IsBegun (sym p.2) c.3 } in
    let g = begun_at bytes (start + length c.0) i x in
    let q : place ≡ start + length c.0 = f (start + length c.0) g.order g.short g.high g.low in
    inl (omega (arith, q, w.order), subst (λ z. Stretch IsBegun bytes z i) (sym q) x)

place_other : (levels : ℕ) (bytes : List ℕ) (at start i place : ℕ) (s : State) → Stretch AreSpaces bytes at start → start ≤ i → run (Value levels []) (slice_range bytes start i) ≡ Going s → is_tail (token_in s) ≡ false → place ≡ i → IsFaultPlace bytes at i place
place_other levels bytes at start i place s w a r t q = inr (q, none)
  where
    none : (from : ℕ) → at ≤ from → Stretch IsBegun bytes from i → ⊥
    none from l x =
        let g = begun_at bytes from i x in
        let n : from < start → ⊥ = λ h. let y : is_space (get_or bytes from 0) ≡ true = space_within bytes at start from w l h in let z : is_space (get_or bytes from 0) ≡ false = g.space in cc in
        let o : start ≤ from = omega (arith, n) in
        let e : slice_range bytes start i ≡ slice_range bytes start from ++ slice_range bytes from i = range_split bytes start from i o x.order in
        let f = run_front (Value levels []) s (slice_range bytes start from) (slice_range bytes from i) (subst (λ z. run (Value levels []) z ≡ Going s) e r) in
        let y : is_tail (token_in s) ≡ true = run_begun (Value levels []) f.0 s (slice_range bytes start from) (slice_range bytes from i) tt f.1 f.2 x.text in
        cc

pub fault_found : (levels : ℕ) (bytes : List ℕ) (at start i place : ℕ) (s : State) → Stretch AreSpaces bytes at start → start ≤ i → i ≤ length bytes → run (Value levels []) (slice_range bytes start i) ≡ Going s → (is_tail (token_in s) ≡ true → IsLastLead bytes i place) → (is_tail (token_in s) ≡ false → place ≡ i) → IsFaultPlace bytes at i place
fault_found levels bytes at start i place s w a b r f g = go (is_tail (token_in s)) refl
  where
    go : (p : Bool) → is_tail (token_in s) ≡ p → IsFaultPlace bytes at i place
    go true q = place_tail levels bytes at start i place s w a b r q (f q)
    go false q = place_other levels bytes at start i place s w a r q (g q)
