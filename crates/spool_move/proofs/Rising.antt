-- Entries whose numbers rise, and the number behind the last of some.
use Rattle.std.proofs.Common.{◌≡◌, inl, inr, ℕ, zero, suc, ◌+◌, ◌<◌, ◌≤◌, Bool, true, false, cond, List, [], ◌∷◌, ◌++◌, length, take, drop, get_or, refl, sym, ◌∙◌, ap, subst, arith, take-append-drop}
use Rattle.std.specs.Prelude.{All, not, nat_le}
use Rattle.std.specs.List.{filter, Contains}
use Rattle.std.proofs.lemmas.Bool.{cases_lt, le-leb, lt-leb}
use Rattle.std.proofs.lemmas.List.Elements.{All-nil, All-cons, All-contains, All-head, filter-append}
use Rattle.event_form.specs.declared.event.Entry.{Entry}
use Rattle.spool_state.specs.SpoolState.{SpoolState, list, base, numbers_of, IsKnownIn}
use Rattle.spool_state.specs.Left.{NumberedEntry, numbered, is_known, left}
use Rattle.spool_state.proofs.Lefts.{left_unknown}
use Rattle.spool_state.proofs.Unknown.{filter_all, filter_none}
use Rattle.spool_move.specs.Walking.{after_last}

-- the numbers rise from this one on
abbrev pub Rises : ℕ → List NumberedEntry → Type 0
Rises from [] = Unit {0}
Rises from (one ∷ more) = (from ≤ one.number) × Rises (one.number + 1) more

pub rises_less : (from least : ℕ) (xs : List NumberedEntry) → least ≤ from → Rises from xs → Rises least xs
rises_less from least [] le rises = tt
rises_less from least (x ∷ xs) le rises = (omega (arith, le, rises.0), rises.1)

pub after_most : (from : ℕ) (xs : List NumberedEntry) → Rises from xs → from ≤ after_last from xs
after_most from [] rises = omega arith
after_most from (x ∷ xs) rises = omega (arith, rises.0, after_most (x.number + 1) xs rises.1)

-- each is below the number behind the last, and none is below the first
pub all_below : (from : ℕ) (xs : List NumberedEntry) → Rises from xs → All (λ one. one.number < after_last from xs) xs
all_below from [] rises = All-nil (λ (one : NumberedEntry). one.number < from)
all_below from (x ∷ xs) rises =
    All-cons (λ (one : NumberedEntry). one.number < after_last (x.number + 1) xs) x xs (omega (arith, after_most (x.number + 1) xs rises.1)) (all_below (x.number + 1) xs rises.1)

pub all_from : (from : ℕ) (xs : List NumberedEntry) → Rises from xs → All (λ one. from ≤ one.number) xs
all_from from [] rises = All-nil (λ (one : NumberedEntry). from ≤ one.number)
all_from from (x ∷ xs) rises =
    All-cons (λ (one : NumberedEntry). from ≤ one.number) x xs rises.0 (λ k d lt. omega (arith, rises.0, all_from (x.number + 1) xs rises.1 k d lt))

pub rises_parts : (from : ℕ) (xs ys : List NumberedEntry) → Rises from (xs ++ ys) → Rises from xs × Rises (after_last from xs) ys
rises_parts from [] ys rises = (tt, rises)
rises_parts from (x ∷ xs) ys rises = let rest = rises_parts (x.number + 1) xs ys rises.1 in ((rises.0, rest.0), rest.1)

rises_numbered : (first : ℕ) (es : List Entry) → Rises first (numbered first es)
rises_numbered first [] = tt
rises_numbered first (e ∷ es) = (omega arith, rises_numbered (first + 1) es)

rises_if : (b : Bool) (from : ℕ) (x : NumberedEntry) (xs : List NumberedEntry) → from ≤ x.number → Rises (x.number + 1) xs → Rises from (cond b (x ∷ xs) xs)
rises_if true from x xs le rises = (le, rises)
rises_if false from x xs le rises = rises_less (x.number + 1) from xs (omega (arith, le)) rises

pub rises_filter : (p : NumberedEntry → Bool) (from : ℕ) (xs : List NumberedEntry) → Rises from xs → Rises from (filter p xs)
rises_filter p from [] rises = tt
rises_filter p from (x ∷ xs) rises = rises_if (p x) from x (filter p xs) rises.0 (rises_filter p (x.number + 1) xs rises.1)

-- ---- of a spool

pub left_rises : (s : SpoolState) → Rises 0 (left s)
left_rises s = rises_less (base s) 0 (left s) (omega arith) (rises_filter (λ e. not (is_known (numbers_of s) e.number)) (base s) (numbered (base s) (list s)) (rises_numbered (base s) (list s)))

-- entries whose numbers rise, and none of which is below a number
rises_above : (from : ℕ) (xs : List NumberedEntry) → Rises 0 xs → All (λ one. from ≤ one.number) xs → Rises from xs
rises_above from [] rises above = tt
rises_above from (x ∷ xs) rises above = (All-head (λ (one : NumberedEntry). from ≤ one.number) x xs above, rises.1)

-- what is left has numbers from the cursor on
pub left_above : (s : SpoolState) (from : ℕ) → from ≤ s.cursor → All (λ one. from ≤ one.number) (left s)
left_above s from le = λ k d lt. above (get_or (left s) k d).number (left_unknown s k d lt)
  where
    above : (n : ℕ) → (IsKnownIn s n → ⊥) → from ≤ n
    above n off = elim (cases_lt n s.cursor) [ inl lt ↦ absurd (off (inl lt)) | inr ge ↦ omega (arith, le, ge) ]

pub left_rises_from : (s : SpoolState) (from : ℕ) → from ≤ s.cursor → Rises from (left s)
left_rises_from s from le = rises_above from (left s) (left_rises s) (left_above s from le)

-- ---- of the first of them

-- Behind the last of the first so many are the others.
pub after_first : (from k : ℕ) (xs : List NumberedEntry) → Rises from xs → filter (λ e. nat_le (after_last from (take k xs)) e.number) xs ≡ drop k xs
after_first from k xs rises =
    let next = after_last from (take k xs) in
    let parts = rises_parts from (take k xs) (drop k xs) (subst (Rises from) (sym (take-append-drop k xs)) rises) in
    let below : All (λ (one : NumberedEntry). nat_le next one.number ≡ false) (take k xs) = λ i d lt. lt-leb next _ (all_below from (take k xs) parts.0 i d lt) in
    let above : All (λ (one : NumberedEntry). nat_le next one.number ≡ true) (drop k xs) = λ i d lt. le-leb next _ (all_from next (drop k xs) parts.1 i d lt) in
    ap (filter (λ (e : NumberedEntry). nat_le next e.number)) (sym (take-append-drop k xs))
    ∙ filter-append (λ (e : NumberedEntry). nat_le next e.number) (take k xs) (drop k xs)
    ∙ ap (λ (l : List NumberedEntry). l ++ filter (λ (e : NumberedEntry). nat_le next e.number) (drop k xs)) (filter_none (λ (e : NumberedEntry). nat_le next e.number) (take k xs) below)
    ∙ filter_all (λ (e : NumberedEntry). nat_le next e.number) (drop k xs) above

-- one of them that is below that is one of the first
pub before_last : (from k : ℕ) (xs : List NumberedEntry) (one : NumberedEntry) → Rises from xs → Contains (drop k xs) one → one.number < after_last from (take k xs) → ⊥
before_last from k xs one rises there lt =
    let parts = rises_parts from (take k xs) (drop k xs) (subst (Rises from) (sym (take-append-drop k xs)) rises) in
    omega (arith, lt, All-contains (λ (e : NumberedEntry). after_last from (take k xs) ≤ e.number) (drop k xs) one (all_from (after_last from (take k xs)) (drop k xs) parts.1) there)

-- from the first number on it is all of them
pub from_first : (from : ℕ) (xs : List NumberedEntry) → Rises from xs → filter (λ e. nat_le from e.number) xs ≡ xs
from_first from xs rises = filter_all (λ e. nat_le from e.number) xs (λ i d lt. le-leb from _ (all_from from xs rises i d lt))

-- ---- a number has one entry

pub one_place : (from : ℕ) (xs : List NumberedEntry) (i j : ℕ) (d : NumberedEntry) → Rises from xs → i < length xs → j < length xs → (get_or xs i d).number ≡ (get_or xs j d).number → i ≡ j
one_place from [] i j d rises li lj same = absurd (omega arith)
one_place from (x ∷ xs) zero zero d rises li lj same = refl
one_place from (x ∷ xs) zero (suc j) d rises li lj same = absurd (omega (arith, same, all_from (x.number + 1) xs rises.1 j d (omega arith)))
one_place from (x ∷ xs) (suc i) zero d rises li lj same = absurd (omega (arith, same, all_from (x.number + 1) xs rises.1 i d (omega arith)))
one_place from (x ∷ xs) (suc i) (suc j) d rises li lj same = ap suc (one_place (x.number + 1) xs i j d rises.1 (omega arith) (omega arith) same)

got_same : (xs : List NumberedEntry) (k : ℕ) (x y : NumberedEntry) → k < length xs → get_or xs k x ≡ get_or xs k y
got_same [] k x y lt = absurd (omega arith)
got_same (z ∷ xs) zero x y lt = refl
got_same (z ∷ xs) (suc k) x y lt = got_same xs k x y (omega arith)

pub one_entry : (from : ℕ) (xs : List NumberedEntry) (x y : NumberedEntry) → Rises from xs → Contains xs x → Contains xs y → x.number ≡ y.number → x ≡ y
one_entry from xs x y rises a b same =
    let there : get_or xs b.0 x ≡ y = got_same xs b.0 x y b.1 ∙ b.2 in
    let place : a.0 ≡ b.0 = one_place from xs a.0 b.0 x rises a.1 b.1 (ap (λ (e : NumberedEntry). e.number) a.2 ∙ same ∙ sym (ap (λ (e : NumberedEntry). e.number) there)) in
    sym a.2 ∙ ap (λ (k : ℕ). get_or xs k x) place ∙ there
