-- The calls of a session, one after another.
use Rattle.std.proofs.Common.{◌≡◌, ℕ, ◌+◌, ◌<◌, ◌≤◌, true, false, List, [], ◌∷◌, ◌++◌, length, refl, sym, ◌∙◌, ap, subst, inl, inr, arith, append_assoc}
use Rattle.std.specs.Prelude.{◌⊎◌, Ok, Err, nat_le, nat_lt}
use Rattle.std.proofs.lemmas.Bool.{and_parts, cases_Bool, cases_lt, cond-false, cond-true, le-ltb, lt-ltb, ltb-true}
use Rattle.known_numbers.specs.Numbers.{IsInSome}
use Rattle.known_numbers.specs.declared.stretch.Stretch.{Stretch}
use Rattle.spool_answers.specs.declared.numbered.Numbered.{Numbered}
use Rattle.desk_access.specs.Call.{Call, pends, marks}
use Rattle.forward_core.specs.Calls.{AreGranted, AreOfSession, IsMarked, MarksAllBelow, MarksBelowRead, MarksFirst, after_last, asked_from, is_within, next_after, next_of, read_of, within}

pub read_then : (end : ℕ) (xs ys : List Call) → read_of end (xs ++ ys) ≡ read_of end xs ++ read_of end ys
read_then end [] ys = refl
read_then end (pends from most (Ok given) ∷ xs) ys = ap (λ (l : List Numbered). within from end given ++ l) (read_then end xs ys) ∙ sym (append_assoc (within from end given) (read_of end xs) (read_of end ys))
read_then end (call ∷ xs) ys = read_then end xs ys

pub next_then : (end next : ℕ) (xs ys : List Call) → next_of end next (xs ++ ys) ≡ next_of end (next_of end next xs) ys
next_then end next [] ys = refl
next_then end next (pends from most (Ok given) ∷ xs) ys = next_then end (next_after end next given) xs ys
next_then end next (call ∷ xs) ys = next_then end next xs ys

pub granted_then : (xs ys : List Call) → AreGranted xs → AreGranted ys → AreGranted (xs ++ ys)
granted_then [] ys g h = h
granted_then (pends from most (Ok given) ∷ xs) ys g h = granted_then xs ys g h
granted_then (marks stretches (Ok done) ∷ xs) ys g h = granted_then xs ys g h
granted_then (call ∷ xs) ys g h = absurd g

pub session_then : (end next : ℕ) (xs ys : List Call) → AreGranted xs → AreOfSession end next xs → AreOfSession end (next_of end next xs) ys → AreOfSession end next (xs ++ ys)
session_then end next [] ys g s t = t
session_then end next (pends from most (Ok given) ∷ xs) ys g s t = (s.0, s.1, s.2, session_then end (next_after end next given) xs ys g s.3 t)
session_then end next (marks stretches (Ok done) ∷ xs) ys g s t = session_then end next xs ys g s t
session_then end next (call ∷ xs) ys g s t = absurd g

pub marked_cases : (xs ys : List Call) (n : ℕ) → IsMarked (xs ++ ys) n → IsMarked xs n ⊎ IsMarked ys n
marked_cases [] ys n m = inr m
marked_cases (marks stretches result ∷ xs) ys n m = elim m [
  | inl here ↦ inl (inl here)
  | inr later ↦ elim (marked_cases xs ys n later) [ inl a ↦ inl (inr a) | inr b ↦ inr b ]
]
marked_cases (call ∷ xs) ys n m = marked_cases xs ys n m

pub marked_left : (xs ys : List Call) (n : ℕ) → IsMarked xs n → IsMarked (xs ++ ys) n
marked_left [] ys n m = absurd m
marked_left (marks stretches result ∷ xs) ys n m = elim m [ inl here ↦ inl here | inr later ↦ inr (marked_left xs ys n later) ]
marked_left (call ∷ xs) ys n m = marked_left xs ys n m

pub marked_right : (xs ys : List Call) (n : ℕ) → IsMarked ys n → IsMarked (xs ++ ys) n
marked_right [] ys n m = m
marked_right (marks stretches result ∷ xs) ys n m = inr (marked_right xs ys n m)
marked_right (call ∷ xs) ys n m = marked_right xs ys n m

pub after_then : (past : ℕ) (xs ys : List Numbered) → after_last past (xs ++ ys) ≡ after_last (after_last past xs) ys
after_then past [] ys = refl
after_then past (x ∷ xs) ys = after_then (x.number + 1) xs ys

pub low_then : (end past : ℕ) (xs ys : List Call) → MarksBelowRead end past xs → MarksBelowRead end (after_last past (read_of end xs)) ys → MarksBelowRead end past (xs ++ ys)
low_then end past [] ys low more = more
low_then end past (pends from most (Ok given) ∷ xs) ys low more =
    low_then end (after_last past (within from end given)) xs ys low (subst (λ (n : ℕ). MarksBelowRead end n ys) (after_then past (within from end given) (read_of end xs)) more)
low_then end past (marks stretches result ∷ xs) ys low more = (low.0, low_then end past xs ys low.1 more)
low_then end past (call ∷ xs) ys low more = low_then end past xs ys low more

-- ---- marks of what was read are of numbers below the one from which the next reading begins

abbrev pub MarksBelowNext : ℕ → ℕ → List Call → Type 0
MarksBelowNext end next [] = Unit {0}
MarksBelowNext end next (pends from most (Ok given) ∷ calls) = MarksBelowNext end (next_after end next given) calls
MarksBelowNext end next (marks stretches result ∷ calls) = ((n : ℕ) → IsInSome stretches n → n < next) × MarksBelowNext end next calls
MarksBelowNext end next (call ∷ calls) = MarksBelowNext end next calls

after_one : (past from end : ℕ) (given : List Numbered) → past ≤ end → after_last past (within from end given) ≤ end
after_one past from end [] le = le
after_one past from end (x ∷ given) le = elim (cases_Bool (is_within from end x.number)) [
  | inl is ↦ subst (λ (l : List Numbered). after_last past l ≤ end) (sym (cond-true (is_within from end x.number) (x ∷ within from end given) (within from end given) is))
      (after_one (x.number + 1) from end given (omega (arith, ltb-true x.number end (and_parts (nat_le from x.number) (nat_lt x.number end) is).1)))
  | inr is ↦ subst (λ (l : List Numbered). after_last past l ≤ end) (sym (cond-false (is_within from end x.number) (x ∷ within from end given) (within from end given) is))
      (after_one past from end given le)
]

after_some : (past next : ℕ) (some : List Numbered) → 0 < length some → after_last past some ≡ after_last next some
after_some past next [] less = absurd (omega arith)
after_some past next (x ∷ some) less = refl

after_reading : (past next end : ℕ) (given : List Numbered) → past ≤ next → next < end → after_last past (within next end given) ≤ next_after end next given
after_reading past next end given le more =
    let w = within next end given in
    elim (cases_lt (length w) (asked_from end next)) [
      | inl lt ↦ subst (λ (n : ℕ). after_last past w ≤ n) (sym (cond-true (nat_lt (length w) (asked_from end next)) end (after_last next w) (lt-ltb (length w) (asked_from end next) lt))) (after_one past next end given (omega (arith, le, more)))
      | inr all ↦ subst (λ (n : ℕ). after_last past w ≤ n) (sym (cond-false (nat_lt (length w) (asked_from end next)) end (after_last next w) (le-ltb (length w) (asked_from end next) all))) (omega (arith, after_some past next w (omega (arith, all, more))))
    ]

pub below_next : (end past next : ℕ) (calls : List Call) → past ≤ next → AreOfSession end next calls → MarksBelowRead end past calls → MarksBelowNext end next calls
below_next end past next [] le of low = tt
below_next end past next (pends from most (Ok given) ∷ calls) le of low =
    below_next end (after_last past (within next end given)) (next_after end next given) calls (after_reading past next end given le of.1) of.3
    (subst (λ (n : ℕ). MarksBelowRead end (after_last past (within n end given)) calls) of.0 low)
below_next end past next (pends from most (Err fault) ∷ calls) le of low = subst (MarksBelowNext end next) (sym of.3) tt
below_next end past next (marks stretches (Ok done) ∷ calls) le of low = (λ n there. omega (arith, low.0 n there, le), below_next end past next calls le of low.1)
below_next end past next (marks stretches (Err fault) ∷ calls) le of low = (λ n there. omega (arith, low.0 n there, le), subst (MarksBelowNext end next) (sym of) tt)
below_next end past next (call ∷ calls) le of low = absurd of

-- the last call is a mark that begins with all numbers below one
pub all_below_last : (n : ℕ) (xs : List Call) (stretches more : List Stretch) → stretches ≡ record { from = 0; to = n } ∷ more → MarksAllBelow n (xs ++ marks stretches (Ok tt) ∷ [])
all_below_last n [] stretches more is = subst (λ (l : List Stretch). MarksAllBelow n (marks l (Ok tt) ∷ [])) (sym is) (inl refl)
all_below_last n (marks (stretch ∷ others) (Ok done) ∷ xs) stretches more is = inr (all_below_last n xs stretches more is)
all_below_last n (call ∷ xs) stretches more is = all_below_last n xs stretches more is

-- where no reading needs a mark before it, none does after a mark
pub first_true : (more : List Call) → MarksFirst false more → MarksFirst true more
first_true [] m = tt
first_true (pends from most result ∷ more) m = (refl, m.1)
first_true (marks stretches result ∷ more) m = m
first_true (call ∷ more) m = m
