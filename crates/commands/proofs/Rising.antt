-- Entries whose numbers rise, and those of them from a number on.
use Rattle.std.proofs.Common.{◌≡◌, ℕ, ◌+◌, ◌<◌, ◌≤◌, List, [], ◌∷◌, ◌++◌, refl, sym, ◌∙◌, ap, subst, arith}
use Rattle.std.specs.Prelude.{Bool, true, false, cond, All, nat_le}
use Rattle.std.specs.List.{filter}
use Rattle.std.specs.Prelude.{not}
use Rattle.std.proofs.lemmas.Bool.{le-leb, lt-leb, leb-false}
use Rattle.std.proofs.lemmas.List.Elements.{All-nil, All-cons, All-head, All-tail, All-filter, filter-append}
use Rattle.event_form.specs.declared.event.Entry.{Entry}
use Rattle.event_form.specs.Entry.{IsEntry}
use Rattle.spool_state.specs.SpoolState.{SpoolState, IsSound, list, base, numbers_of}
use Rattle.spool_state.specs.Left.{NumberedEntry, numbered, is_known, left, left_from}
use Rattle.spool_state.proofs.Unknown.{filter_all, filter_none}
use Rattle.forward_core.proofs.Rest.{list_limits}
use Rattle.commands.proofs.Printing.{IsLimited}

-- the numbers rise from this one on
abbrev pub Rises : ℕ → List NumberedEntry → Type 0
Rises from [] = Unit {0}
Rises from (one ∷ more) = (from ≤ one.number) × Rises (one.number + 1) more

-- the number after the last of them, or this one where there is none
abbrev pub after_last : ℕ → List NumberedEntry → ℕ
after_last from [] = from
after_last from (one ∷ more) = after_last (one.number + 1) more

-- ---- numbers

pub after_append : (from : ℕ) (xs : List NumberedEntry) (one : NumberedEntry) → after_last from (xs ++ one ∷ []) ≡ one.number + 1
after_append from [] one = refl
after_append from (x ∷ xs) one = after_append (x.number + 1) xs one

after_most : (from : ℕ) (xs : List NumberedEntry) → Rises from xs → from ≤ after_last from xs
after_most from [] rises = omega arith
after_most from (x ∷ xs) rises = omega (arith, rises.0, after_most (x.number + 1) xs rises.1)

-- each is below the number after the last, and not below this one
all_below : (from : ℕ) (xs : List NumberedEntry) → Rises from xs → All (λ one. one.number < after_last from xs) xs
all_below from [] rises = All-nil (λ (one : NumberedEntry). one.number < from)
all_below from (x ∷ xs) rises =
    All-cons (λ (one : NumberedEntry). one.number < after_last (x.number + 1) xs) x xs (omega (arith, after_most (x.number + 1) xs rises.1)) (all_below (x.number + 1) xs rises.1)

all_from : (from : ℕ) (xs : List NumberedEntry) → Rises from xs → All (λ one. from ≤ one.number) xs
all_from from [] rises = All-nil (λ (one : NumberedEntry). from ≤ one.number)
all_from from (x ∷ xs) rises =
    All-cons (λ (one : NumberedEntry). from ≤ one.number) x xs rises.0 (λ k d lt. omega (arith, rises.0, all_from (x.number + 1) xs rises.1 k d lt))

rises_less : (from least : ℕ) (xs : List NumberedEntry) → least ≤ from → Rises from xs → Rises least xs
rises_less from least [] le rises = tt
rises_less from least (x ∷ xs) le rises = (omega (arith, le, rises.0), rises.1)

rises_parts : (from : ℕ) (xs ys : List NumberedEntry) → Rises from (xs ++ ys) → Rises from xs × Rises (after_last from xs) ys
rises_parts from [] ys rises = (tt, rises)
rises_parts from (x ∷ xs) ys rises = let rest = rises_parts (x.number + 1) xs ys rises.1 in ((rises.0, rest.0), rest.1)

rises_numbered : (first : ℕ) (es : List Entry) → Rises first (numbered first es)
rises_numbered first [] = tt
rises_numbered first (e ∷ es) = (omega arith, rises_numbered (first + 1) es)

-- some of them rise too
rises_if : (b : Bool) (from : ℕ) (x : NumberedEntry) (xs : List NumberedEntry) → from ≤ x.number → Rises (x.number + 1) xs → Rises from (cond b (x ∷ xs) xs)
rises_if true from x xs le rises = (le, rises)
rises_if false from x xs le rises = rises_less (x.number + 1) from xs (omega (arith, le)) rises

rises_filter : (p : NumberedEntry → Bool) (from : ℕ) (xs : List NumberedEntry) → Rises from xs → Rises from (filter p xs)
rises_filter p from [] rises = tt
rises_filter p from (x ∷ xs) rises = rises_if (p x) from x (filter p xs) rises.0 (rises_filter p (x.number + 1) xs rises.1)

-- ---- those from a number on

-- one that isn't kept by the first test isn't by the second
kept : (p q : NumberedEntry → Bool) (x : NumberedEntry) (xs ys : List NumberedEntry) (b : Bool) → (b ≡ false → q x ≡ false) → filter q xs ≡ ys → filter q (cond b (x ∷ xs) xs) ≡ (cond (q x) (x ∷ ys) ys)
kept p q x xs ys true off is = ap (λ (l : List NumberedEntry). cond (q x) (x ∷ l) l) is ∙ refl
kept p q x xs ys false off is = is ∙ sym (ap (λ (b : Bool). cond b (x ∷ ys) ys) (off refl))

off_later : (from next n : ℕ) → from ≤ next → nat_le from n ≡ false → nat_le next n ≡ false
off_later from next n le off = lt-leb next n (omega (arith, le, leb-false from n off))

pub from_twice : (from next : ℕ) (xs : List NumberedEntry) → from ≤ next → filter (λ e. nat_le next e.number) (filter (λ e. nat_le from e.number) xs) ≡ filter (λ e. nat_le next e.number) xs
from_twice from next [] le = refl
from_twice from next (x ∷ xs) le =
    kept (λ e. nat_le from e.number) (λ e. nat_le next e.number) x (filter (λ e. nat_le from e.number) xs) (filter (λ e. nat_le next e.number) xs)
    (nat_le from x.number) (off_later from next x.number le) (from_twice from next xs le)

-- ---- of a spool

pub left_rises : (s : SpoolState) (from : ℕ) → Rises 0 (left_from s from)
left_rises s from =
    rises_less (base s) 0 _ (omega arith) (rises_filter (λ e. nat_le from e.number) (base s) (left s)
    (rises_filter (λ e. not (is_known (numbers_of s) e.number)) (base s) (numbered (base s) (list s)) (rises_numbered (base s) (list s))))

-- after the first of those that are left from a number on, the others are left
pub left_after : (s : SpoolState) (from next : ℕ) (given more : List NumberedEntry) → left_from s from ≡ given ++ more → after_last 0 given ≡ next → from ≤ next → left_from s next ≡ more
left_after s from next given more is after le =
    let parts = rises_parts 0 given more (subst (Rises 0) is (left_rises s from)) in
    let below : All (λ (one : NumberedEntry). nat_le next one.number ≡ false) given = λ k d lt. lt-leb next _ (omega (arith, after, all_below 0 given parts.0 k d lt)) in
    let above : All (λ (one : NumberedEntry). nat_le next one.number ≡ true) more = λ k d lt. le-leb next _ (omega (arith, after, all_from (after_last 0 given) more parts.1 k d lt)) in
    sym (from_twice from next (left s) le)
    ∙ ap (filter (λ (e : NumberedEntry). nat_le next e.number)) is
    ∙ filter-append (λ (e : NumberedEntry). nat_le next e.number) given more
    ∙ ap (λ (l : List NumberedEntry). l ++ filter (λ (e : NumberedEntry). nat_le next e.number) more) (filter_none (λ (e : NumberedEntry). nat_le next e.number) given below)
    ∙ filter_all (λ (e : NumberedEntry). nat_le next e.number) more above

-- ---- they keep their limits

numbered_limits : (first : ℕ) (es : List Entry) → All IsEntry es → All IsLimited (numbered first es)
numbered_limits first [] all = All-nil IsLimited
numbered_limits first (e ∷ es) all = All-cons IsLimited (record { number = first; entry = e }) (numbered (first + 1) es) (All-head IsEntry e es all) (numbered_limits (first + 1) es (All-tail IsEntry e es all))

pub left_limits : (s : SpoolState) (from : ℕ) → IsSound s → All IsLimited (left_from s from)
left_limits s from sound =
    All-filter (λ e. nat_le from e.number) IsLimited (left s) (All-filter (λ e. not (is_known (numbers_of s) e.number)) IsLimited (numbered (base s) (list s)) (numbered_limits (base s) (list s) (list_limits s sound)))
