-- Numbers that are known and entries whose numbers aren't.
use Rattle.std.proofs.Common.{◌≡◌, ◌⊎◌, inl, inr, ℕ, suc, ◌+◌, ◌<◌, ◌≤◌, Bool, true, false, List, [], ◌∷◌, ◌++◌, length, refl, sym, ◌∙◌, ap, arith}
use Rattle.std.specs.Prelude.{All, not, ◌&&◌, nat_lt, nat_le, cond}
use Rattle.std.specs.List.{filter}
use Rattle.std.proofs.lemmas.Bool.{ltb-true, leb-true, lt-ltb, le-leb, or_cases, or_left, or_right, and_parts, and_from, cases_Bool, not-true, both_ways, false_from_ne_true}
use Rattle.std.proofs.lemmas.List.Elements.{All-cons, All-head, All-tail, filter_passes, filter-append}
use Rattle.known_numbers.specs.declared.stretch.Stretch.{Stretch}
use Rattle.known_numbers.specs.Numbers.{Numbers, IsInSome, IsKnown, EndBy}
use Rattle.event_form.specs.declared.event.Entry.{Entry}
use Rattle.spool_state.specs.Left.{NumberedEntry, numbered, is_in_some, is_known, unknown}

-- ---- the test

in_some_true : (stretches : List Stretch) (n : ℕ) → is_in_some stretches n ≡ true → IsInSome stretches n
in_some_true [] n is = absurd (both_ways false refl is)
in_some_true (stretch ∷ stretches) n is = elim (or_cases (nat_le stretch.from n && nat_lt n stretch.to) (is_in_some stretches n) is) [
  | inl here ↦ let parts = and_parts (nat_le stretch.from n) (nat_lt n stretch.to) here in inl (leb-true stretch.from n parts.0, ltb-true n stretch.to parts.1)
  | inr there ↦ inr (in_some_true stretches n there)
]

in_some_from : (stretches : List Stretch) (n : ℕ) → IsInSome stretches n → is_in_some stretches n ≡ true
in_some_from [] n is = absurd is
in_some_from (stretch ∷ stretches) n (inl here) = or_left (nat_le stretch.from n && nat_lt n stretch.to) (is_in_some stretches n) (and_from (nat_le stretch.from n) (nat_lt n stretch.to) (le-leb stretch.from n here.0) (lt-ltb n stretch.to here.1))
in_some_from (stretch ∷ stretches) n (inr there) = or_right (nat_le stretch.from n && nat_lt n stretch.to) (is_in_some stretches n) (in_some_from stretches n there)

pub known_true : (numbers : Numbers) (n : ℕ) → is_known numbers n ≡ true → IsKnown numbers n
known_true numbers n is = elim (or_cases (nat_lt n numbers.cursor) (is_in_some numbers.stretches n) is) [
  | inl below ↦ inl (ltb-true n numbers.cursor below)
  | inr there ↦ inr (in_some_true numbers.stretches n there)
]

pub known_from : (numbers : Numbers) (n : ℕ) → IsKnown numbers n → is_known numbers n ≡ true
known_from numbers n (inl below) = or_left (nat_lt n numbers.cursor) (is_in_some numbers.stretches n) (lt-ltb n numbers.cursor below)
known_from numbers n (inr there) = or_right (nat_lt n numbers.cursor) (is_in_some numbers.stretches n) (in_some_from numbers.stretches n there)

pub unknown_from : (numbers : Numbers) (n : ℕ) → (IsKnown numbers n → ⊥) → is_known numbers n ≡ false
unknown_from numbers n not_known = false_from_ne_true (is_known numbers n) (λ is. not_known (known_true numbers n is))

pub known_or_not : (numbers : Numbers) (n : ℕ) → IsKnown numbers n ⊎ (IsKnown numbers n → ⊥)
known_or_not numbers n = elim (cases_Bool (is_known numbers n)) [
  | inl is ↦ inl (known_true numbers n is)
  | inr off ↦ inr (λ known. both_ways (is_known numbers n) off (known_from numbers n known))
]

-- a known number is below what the cursor and the stretches end by
in_some_below : (end : ℕ) (stretches : List Stretch) (n : ℕ) → EndBy end stretches → IsInSome stretches n → n < end
in_some_below end [] n ends is = absurd is
in_some_below end (stretch ∷ stretches) n ends (inl here) = omega (arith, here.1, ends.0)
in_some_below end (stretch ∷ stretches) n ends (inr there) = in_some_below end stretches n ends.1 there

pub known_below : (end : ℕ) (numbers : Numbers) (n : ℕ) → numbers.cursor ≤ end → EndBy end numbers.stretches → IsKnown numbers n → n < end
known_below end numbers n le ends (inl below) = omega arith
known_below end numbers n le ends (inr there) = in_some_below end numbers.stretches n ends there

-- ---- what a filter keeps

-- all, none, or what another one keeps
pub filter_all : (p : NumberedEntry → Bool) (xs : List NumberedEntry) → All (λ x. p x ≡ true) xs → filter p xs ≡ xs
filter_all p [] all = refl
filter_all p (x ∷ xs) all = λ i. cond (All-head (λ y. p y ≡ true) x xs all i) (x ∷ filter_all p xs (All-tail (λ y. p y ≡ true) x xs all) i) (filter p xs)

pub filter_none : (p : NumberedEntry → Bool) (xs : List NumberedEntry) → All (λ x. p x ≡ false) xs → filter p xs ≡ []
filter_none p [] all = refl
filter_none p (x ∷ xs) all = (λ i. cond (All-head (λ y. p y ≡ false) x xs all i) (x ∷ filter p xs) (filter p xs)) ∙ filter_none p xs (All-tail (λ y. p y ≡ false) x xs all)

pub filter_like : (p q : NumberedEntry → Bool) (xs : List NumberedEntry) → All (λ x. p x ≡ q x) xs → filter p xs ≡ filter q xs
filter_like p q [] all = refl
filter_like p q (x ∷ xs) all = λ i. cond (All-head (λ y. p y ≡ q y) x xs all i) (x ∷ filter_like p q xs (All-tail (λ y. p y ≡ q y) x xs all) i) (filter_like p q xs (All-tail (λ y. p y ≡ q y) x xs all) i)

-- a filter of one that is kept or not, and of the others
keep_then : (b : Bool) (p : NumberedEntry → Bool) (x : NumberedEntry) (xs : List NumberedEntry) → filter p (cond b (x ∷ xs) xs) ≡ cond b (cond (p x) (x ∷ filter p xs) (filter p xs)) (filter p xs)
keep_then true p x xs = refl
keep_then false p x xs = refl

-- ---- numbers of entries

pub numbered_append : (first : ℕ) (xs ys : List Entry) → numbered first (xs ++ ys) ≡ numbered first xs ++ numbered (first + length xs) ys
numbered_append first [] ys = ap (λ (n : ℕ). numbered n ys) (omega arith)
numbered_append first (x ∷ xs) ys =
    ap (λ (l : List NumberedEntry). record { number = first; entry = x } ∷ l) (numbered_append (first + 1) xs ys ∙ ap (λ (n : ℕ). numbered (first + 1) xs ++ numbered n ys) (omega arith))

-- entries of these numbers
pub record IsOf (from to : ℕ) (e : NumberedEntry) : Type 0 where
  pub least : from ≤ e.number
  pub most : e.number < to

widened : (from from' to to' : ℕ) (xs : List NumberedEntry) → from' ≤ from → to ≤ to' → All (IsOf from to) xs → All (IsOf from' to') xs
widened from from' to to' xs low high all k d lt = record { least = omega (arith, (all k d lt).least); most = omega (arith, (all k d lt).most) }

pub numbered_of : (first : ℕ) (xs : List Entry) → All (IsOf first (first + length xs)) (numbered first xs)
numbered_of first [] = λ k d lt. absurd (omega arith)
numbered_of first (x ∷ xs) =
    All-cons (IsOf first (first + length (x ∷ xs))) (record { number = first; entry = x }) (numbered (first + 1) xs) (record { least = omega arith; most = omega arith })
    (widened (first + 1) first (first + 1 + length xs) (first + length (x ∷ xs)) (numbered (first + 1) xs) (omega arith) (omega arith) (numbered_of (first + 1) xs))

pub length-numbered : (first : ℕ) (xs : List Entry) → length (numbered first xs) ≡ length xs
length-numbered first [] = refl
length-numbered first (x ∷ xs) = ap suc (length-numbered (first + 1) xs)

-- ---- those that aren't known

pub unknown_append : (numbers : Numbers) (xs ys : List NumberedEntry) → unknown numbers (xs ++ ys) ≡ unknown numbers xs ++ unknown numbers ys
unknown_append numbers xs ys = filter-append (λ e. not (is_known numbers e.number)) xs ys

pub unknown_all : (numbers : Numbers) (from to : ℕ) (xs : List NumberedEntry) → All (IsOf from to) xs → ((n : ℕ) → from ≤ n → n < to → IsKnown numbers n → ⊥) → unknown numbers xs ≡ xs
unknown_all numbers from to xs within none = filter_all (λ e. not (is_known numbers e.number)) xs (λ k d lt. ap not (unknown_from numbers _ (none _ (within k d lt).least (within k d lt).most)))

pub unknown_none : (numbers : Numbers) (from to : ℕ) (xs : List NumberedEntry) → All (IsOf from to) xs → ((n : ℕ) → from ≤ n → n < to → IsKnown numbers n) → unknown numbers xs ≡ []
unknown_none numbers from to xs within all = filter_none (λ e. not (is_known numbers e.number)) xs (λ k d lt. ap not (known_from numbers _ (all _ (within k d lt).least (within k d lt).most)))

pub unknown_numbers : (numbers : Numbers) (xs : List NumberedEntry) → All (λ e. IsKnown numbers e.number → ⊥) (unknown numbers xs)
unknown_numbers numbers xs k d lt known =
    both_ways _ (not-true _ (filter_passes (λ e. not (is_known numbers e.number)) xs k d lt)) (known_from numbers _ known)

thinned : (now before : Bool) (x : NumberedEntry) (xs : List NumberedEntry) → (before ≡ true → now ≡ true) → cond (not now) (x ∷ xs) xs ≡ cond (not before) (cond (not now) (x ∷ xs) xs) xs
thinned now false x xs stays = refl
thinned true true x xs stays = refl
thinned false true x xs stays = absurd (both_ways false refl (stays refl))

-- Where what was known stays known, the unknown ones now are those of what was unknown before.
pub unknown_thinned : (before now : Numbers) (xs : List NumberedEntry) → ((n : ℕ) → IsKnown before n → IsKnown now n) → unknown now xs ≡ unknown now (unknown before xs)
unknown_thinned before now [] stays = refl
unknown_thinned before now (x ∷ xs) stays =
    let rest = unknown_thinned before now xs stays in
    let test : NumberedEntry → Bool = λ e. not (is_known now e.number) in
    (λ i. cond (not (is_known now x.number)) (x ∷ rest i) (rest i))
    ∙ thinned (is_known now x.number) (is_known before x.number) x (unknown now (unknown before xs)) (λ is. known_from now x.number (stays x.number (known_true before x.number is)))
    ∙ sym (keep_then (not (is_known before x.number)) test x (unknown before xs))
