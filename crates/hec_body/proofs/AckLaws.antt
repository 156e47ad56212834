-- Arrays of numbers, and the first places of numbers.
use Rattle.std.proofs.Common.{◌≡◌, ◌≢◌, ℕ, zero, suc, ◌+◌, ◌<◌, ◌≤◌, ◌⊎◌, inl, inr, Bool, true, false, cond, not, ◌||◌, Option, Some, None, List, [], ◌∷◌, ◌++◌, length, get_or, take, refl, sym, ◌∙◌, ap, subst, arith}
use Rattle.std.specs.Prelude.{◌==◌, filter, nat_eq, option_and_then}
use Rattle.std.specs.List.{AllByRecursion, IsDistinct, list_any}
use Rattle.std.specs.Ordering.{nat_cmp, is_eq}
use Rattle.std.specs.Cmp.{Equal-is}
use Rattle.std.specs.BTreeSet.{BTreeSet, contains, Updates}
use Rattle.std.proofs.lemmas.Bool.{eqb-true, eqb-false, eq-eqb, ne_eqb}
use Rattle.std.proofs.lemmas.Cmp.{nat_cmp_total, tied_itself}
use Rattle.std.proofs.lemmas.Map.Lookups.{exact_unsigned}
use Rattle.std.proofs.lemmas.List.{append-nil}
use Rattle.std.proofs.lemmas.List.Folds.{list_any_more}
use Rattle.std.proofs.lemmas.List.Elements.{filter-append}
use Rattle.serde_json.specs.Data.{unsigned, negative, float, Data, null, boolean, number, string, array, object, no_items, item}
use Rattle.serde_json.specs.Find.{as_number, as_u64}
use Rattle.serde_json.specs.View.{view, items_view}
use Rattle.serde_json.specs.declared.value.Value.{Value}
use Rattle.hec_body.specs.Acks.{numbers, distinct}

-- ---- arrays of numbers

abbrev whole : Data → Option ℕ
whole d = option_and_then as_u64 (as_number d)

pub whole_is : (d : Data) (n : ℕ) → whole d ≡ Some n → d ≡ number (unsigned n)
whole_is null n e = absurd cc
whole_is (boolean b) n e = absurd cc
whole_is (number (unsigned m)) n e = let same : m ≡ n = cc in ap (λ (k : ℕ). number (unsigned k)) same
whole_is (number (negative z)) n e = absurd cc
whole_is (number (float x)) n e = absurd cc
whole_is (string s) n e = absurd cc
whole_is (array ds) n e = absurd cc
whole_is (object ms) n e = absurd cc

-- one more number at the end
pub numbers_push : (vs : List Value) (ns : List ℕ) (v : Value) (n : ℕ) → items_view vs ≡ numbers ns → whole (view v) ≡ Some n → items_view (vs ++ v ∷ []) ≡ numbers (ns ++ n ∷ [])
numbers_push [] [] v n e is = ap (λ (d : Data). item d no_items) (whole_is (view v) n is)
numbers_push [] (m ∷ ns) v n e is = absurd cc
numbers_push (w ∷ vs) [] v n e is = absurd cc
numbers_push (w ∷ vs) (m ∷ ns) v n e is =
    let here : view w ≡ number (unsigned m) = cc in
    let there : items_view vs ≡ numbers ns = cc in
    let more = numbers_push vs ns v n there is in
    cc

-- a value that is no number of that kind
pub no_numbers : (vs : List Value) (i : ℕ) (d : Value) → i < length vs → whole (view (get_or vs i d)) ≡ None → (ns : List ℕ) → items_view vs ≢ numbers ns
no_numbers [] i d within none ns = absurd (omega arith)
no_numbers (v ∷ vs) i d within none [] = λ e. absurd cc
no_numbers (v ∷ vs) zero d within none (n ∷ ns) = λ e.
    let here : view v ≡ number (unsigned n) = cc in
    let some : whole (view v) ≡ Some n = ap whole here in
    cc
no_numbers (v ∷ vs) (suc i) d within none (n ∷ ns) = λ e.
    let there : items_view vs ≡ numbers ns = cc in
    no_numbers vs i d (omega arith) none ns there

-- an array is of one list of numbers
pub numbers_once : (ms ns : List ℕ) → numbers ms ≡ numbers ns → ms ≡ ns
numbers_once [] [] e = refl
numbers_once [] (n ∷ ns) e = absurd cc
numbers_once (m ∷ ms) [] e = absurd cc
numbers_once (m ∷ ms) (n ∷ ns) e =
    let here : m ≡ n = cc in
    let there : numbers ms ≡ numbers ns = cc in
    let more = numbers_once ms ns there in
    cc

pub length-items_view : (vs : List Value) (ns : List ℕ) → items_view vs ≡ numbers ns → length vs ≡ length ns
length-items_view [] [] e = refl
length-items_view [] (n ∷ ns) e = absurd cc
length-items_view (v ∷ vs) [] e = absurd cc
length-items_view (v ∷ vs) (n ∷ ns) e = let there : items_view vs ≡ numbers ns = cc in let same = length-items_view vs ns there in omega arith

-- ---- first places

or_no : (a b : Bool) → (a || b) ≡ false → (a ≡ false) × (b ≡ false)
or_no true b e = absurd cc
or_no false true e = absurd cc
or_no false false e = (refl, refl)

or_yes : (a b : Bool) → (a || b) ≡ true → (b ≡ true) ⊎ ((a ≡ true) × (b ≡ false))
or_yes a true e = inl refl
or_yes true false e = inr (refl, refl)
or_yes false false e = absurd cc

kept : (b : Bool) (n : ℕ) → b ≡ false → cond (not b) (n ∷ []) [] ≡ n ∷ []
kept true n e = absurd cc
kept false n e = refl

left_out : (b : Bool) (n : ℕ) → b ≡ true → cond (not b) (n ∷ []) [] ≡ []
left_out true n e = refl
left_out false n e = absurd cc

pub distinct_new : (ns : List ℕ) (n : ℕ) → list_any (λ m. m == n) ns ≡ false → distinct (ns ++ n ∷ []) ≡ distinct ns ++ n ∷ []
distinct_new [] n e = refl
distinct_new (m ∷ ns) n e =
    let parts = or_no (m == n) (list_any (λ k. k == n) ns) e in
    let other : (n == m) ≡ false = ne_eqb n m (λ same. eqb-false m n parts.0 (sym same)) in
    ap (λ (z : List ℕ). m ∷ filter (λ k. not (k == m)) z) (distinct_new ns n parts.1)
    ∙ ap (λ (z : List ℕ). m ∷ z) (filter-append (λ k. not (k == m)) (distinct ns) (n ∷ []) ∙ ap (λ (z : List ℕ). filter (λ k. not (k == m)) (distinct ns) ++ z) (kept (n == m) n other))

pub distinct_old : (ns : List ℕ) (n : ℕ) → list_any (λ m. m == n) ns ≡ true → distinct (ns ++ n ∷ []) ≡ distinct ns
distinct_old [] n e = absurd cc
distinct_old (m ∷ ns) n e = elim (or_yes (m == n) (list_any (λ k. k == n) ns) e) [
  | inl later ↦ ap (λ (z : List ℕ). m ∷ filter (λ k. not (k == m)) z) (distinct_old ns n later)
  | inr first ↦
      let same : (n == m) ≡ true = eq-eqb n m (sym (eqb-true m n first.0)) in
      ap (λ (z : List ℕ). m ∷ filter (λ k. not (k == m)) z) (distinct_new ns n first.1)
      ∙ ap (λ (z : List ℕ). m ∷ z) (filter-append (λ k. not (k == m)) (distinct ns) (n ∷ []) ∙ ap (λ (z : List ℕ). filter (λ k. not (k == m)) (distinct ns) ++ z) (left_out (n == m) n same) ∙ append-nil (filter (λ k. not (k == m)) (distinct ns)))
]

-- ---- the numbers seen so far

same_test : (a b : ℕ) (t : Bool) → is_eq (nat_cmp a b) ≡ t → t ≡ (a == b)
same_test a b true e = sym (eq-eqb a b (exact_unsigned a b ((Equal-is (nat_cmp a b)).0 e)))
same_test a b false e = sym (ne_eqb a b (λ same.
    let tied : is_eq (nat_cmp a b) ≡ true = subst (λ (c : ℕ). is_eq (nat_cmp a c) ≡ true) same ((Equal-is (nat_cmp a a)).1 (tied_itself nat_cmp_total a)) in
    cc))

or_else : (t x : Bool) → cond t true x ≡ (x || t)
or_else true true = refl
or_else true false = refl
or_else false true = refl
or_else false false = refl

pub seen_more : (old new : BTreeSet ℕ) (xs : List ℕ) (i : ℕ) (n : ℕ) → i < length xs → Updates nat_cmp old new (get_or xs i 0) true → contains nat_cmp old n ≡ list_any (λ m. m == n) (take i xs) → contains nat_cmp new n ≡ list_any (λ m. m == n) (take (i + 1) xs)
seen_more old new xs i n within updates seen =
    let key = get_or xs i 0 in
    updates.0 n ∙ ap (λ (t : Bool). cond t true (contains nat_cmp old n)) (same_test key n (is_eq (nat_cmp key n)) refl) ∙ or_else (key == n) (contains nat_cmp old n) ∙ ap (λ (x : Bool). x || (key == n)) seen ∙ sym (list_any_more (λ m. m == n) xs i 0 within)

pub not_is_true : (b : Bool) → not b ≡ true → b ≡ false
not_is_true true e = sym e
not_is_true false e = refl

-- ---- they are distinct, and no more than the numbers

filter_within : (P : ℕ → Type 0) (t : ℕ → Bool) (xs : List ℕ) → AllByRecursion P xs → AllByRecursion P (filter t xs)
filter_within P t [] h = tt
filter_within P t (x ∷ xs) h = by (t x) (filter_within P t xs h.1) where
  by : (b : Bool) → AllByRecursion P (filter t xs) → AllByRecursion P (cond b (x ∷ filter t xs) (filter t xs))
  by true rest = (h.0, rest)
  by false rest = rest

filter_distinct : (t : ℕ → Bool) (xs : List ℕ) → IsDistinct nat_eq xs → IsDistinct nat_eq (filter t xs)
unfolding IsDistinct
filter_distinct t [] h = tt
filter_distinct t (x ∷ xs) h = by (t x) (filter_distinct t xs h.1) where
  by : (b : Bool) → IsDistinct nat_eq (filter t xs) → IsDistinct nat_eq (cond b (x ∷ filter t xs) (filter t xs))
  by true rest = (filter_within (λ y. nat_eq x y ≡ false) t xs h.0, rest)
  by false rest = rest

other_number : (n m : ℕ) (b : Bool) → (m == n) ≡ b → not b ≡ true → nat_eq n m ≡ false
other_number n m true e isnt = absurd cc
other_number n m false e isnt = ne_eqb n m (λ same. eqb-false m n e (sym same))

others_only : (n : ℕ) (xs : List ℕ) → AllByRecursion (λ y. nat_eq n y ≡ false) (filter (λ m. not (m == n)) xs)
others_only n [] = tt
others_only n (x ∷ xs) = by (x == n) refl (others_only n xs) where
  by : (b : Bool) → (x == n) ≡ b → AllByRecursion (λ y. nat_eq n y ≡ false) (filter (λ m. not (m == n)) xs) → AllByRecursion (λ y. nat_eq n y ≡ false) (cond (not b) (x ∷ filter (λ m. not (m == n)) xs) (filter (λ m. not (m == n)) xs))
  by true e rest = rest
  by false e rest = (other_number n x false e refl, rest)

pub distinct_is : (ns : List ℕ) → IsDistinct nat_eq (distinct ns)
unfolding IsDistinct
distinct_is [] = tt
distinct_is (n ∷ ns) = (others_only n (distinct ns), filter_distinct (λ m. not (m == n)) (distinct ns) (distinct_is ns))

length-filtered : (t : ℕ → Bool) (xs : List ℕ) → length (filter t xs) ≤ length xs
length-filtered t [] = omega arith
length-filtered t (x ∷ xs) = by (t x) (length-filtered t xs) where
  by : (b : Bool) → length (filter t xs) ≤ length xs → length (cond b (x ∷ filter t xs) (filter t xs)) ≤ length (x ∷ xs)
  by true rest = omega (arith, rest)
  by false rest = omega (arith, rest)

pub length-distinct : (ns : List ℕ) → length (distinct ns) ≤ length ns
length-distinct [] = omega arith
length-distinct (n ∷ ns) = omega (arith, length-distinct ns, length-filtered (λ m. not (m == n)) (distinct ns))
