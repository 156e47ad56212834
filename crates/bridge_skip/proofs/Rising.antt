-- Entries whose numbers rise.
use Rattle.std.proofs.Common.{ℕ, ◌+◌, ◌≤◌, Bool, true, false, cond, List, [], ◌∷◌, arith}
use Rattle.std.specs.Prelude.{All, not}
use Rattle.std.specs.List.{filter}
use Rattle.std.proofs.lemmas.List.Elements.{All-nil, All-cons}
use Rattle.event_form.specs.declared.event.Entry.{Entry}
use Rattle.spool_state.specs.SpoolState.{SpoolState, list, base, numbers_of}
use Rattle.spool_state.specs.Left.{NumberedEntry, numbered, is_known, left}

-- the numbers rise from this one on
abbrev pub Rises : ℕ → List NumberedEntry → Type 0
Rises from [] = Unit {0}
Rises from (one ∷ more) = (from ≤ one.number) × Rises (one.number + 1) more

rises_less : (from least : ℕ) (xs : List NumberedEntry) → least ≤ from → Rises from xs → Rises least xs
rises_less from least [] le rises = tt
rises_less from least (x ∷ xs) le rises = (omega (arith, le, rises.0), rises.1)

pub all_from : (from : ℕ) (xs : List NumberedEntry) → Rises from xs → All (λ one. from ≤ one.number) xs
all_from from [] rises = All-nil (λ (one : NumberedEntry). from ≤ one.number)
all_from from (x ∷ xs) rises =
    All-cons (λ (one : NumberedEntry). from ≤ one.number) x xs rises.0 (λ k d lt. omega (arith, rises.0, all_from (x.number + 1) xs rises.1 k d lt))

rises_numbered : (first : ℕ) (es : List Entry) → Rises first (numbered first es)
rises_numbered first [] = tt
rises_numbered first (e ∷ es) = (omega arith, rises_numbered (first + 1) es)

rises_if : (b : Bool) (from : ℕ) (x : NumberedEntry) (xs : List NumberedEntry) → from ≤ x.number → Rises (x.number + 1) xs → Rises from (cond b (x ∷ xs) xs)
rises_if true from x xs le rises = (le, rises)
rises_if false from x xs le rises = rises_less (x.number + 1) from xs (omega (arith, le)) rises

pub rises_filter : (p : NumberedEntry → Bool) (from : ℕ) (xs : List NumberedEntry) → Rises from xs → Rises from (filter p xs)
rises_filter p from [] rises = tt
rises_filter p from (x ∷ xs) rises = rises_if (p x) from x (filter p xs) rises.0 (rises_filter p (x.number + 1) xs rises.1)

-- those that a spool has left do
pub left_rises : (s : SpoolState) → Rises 0 (left s)
left_rises s = rises_less (base s) 0 (left s) (omega arith) (rises_filter (λ e. not (is_known (numbers_of s) e.number)) (base s) (numbered (base s) (list s)) (rises_numbered (base s) (list s)))
