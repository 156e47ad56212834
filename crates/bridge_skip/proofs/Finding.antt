-- Whether the entry of a number is pending, by the first of those with numbers from it on.
use Rattle.std.proofs.Common.{◌≡◌, ◌⊎◌, inl, inr, ℕ, zero, suc, ◌+◌, ◌<◌, ◌≤◌, Bool, true, false, cond, List, [], ◌∷◌, length, take, get_or, refl, sym, ◌∙◌, ap, subst, arith}
use Rattle.std.specs.Prelude.{All, nat_le}
use Rattle.std.specs.List.{Contains, filter}
use Rattle.std.proofs.lemmas.Bool.{leb-true, le-leb}
use Rattle.std.proofs.lemmas.List.Elements.{All-contains, All-contains_itself, All-filter, All-head, filter_passes}
use Rattle.spool_state.specs.SpoolState.{SpoolState, base, end}
use Rattle.spool_state.specs.Left.{NumberedEntry, left, left_from}
use Rattle.spool_state.proofs.Lefts.{left_of}
use Rattle.spool_state.proofs.Unknown.{IsOf}
use Rattle.spool_answers.specs.declared.numbered.Numbered.{Numbered}
use Rattle.spool_answers.specs.Pend.{given_entries}
use Rattle.bridge_skip.specs.Leave.{IsPending}
use Rattle.bridge_skip.proofs.Rising.{Rises, left_rises, all_from, rises_filter}

-- ---- elements of lists

cons_cases : (y : NumberedEntry) (xs : List NumberedEntry) (x : NumberedEntry) → Contains (y ∷ xs) x → (y ≡ x) ⊎ Contains xs x
cons_cases y xs x (zero, lt, is) = inl is
cons_cases y xs x (suc k, lt, is) = inr (k, omega arith, is)

kept_here : (b : Bool) (x : NumberedEntry) (xs : List NumberedEntry) → b ≡ true → Contains (cond b (x ∷ xs) xs) x
kept_here b x xs is = subst (λ (c : Bool). Contains (cond c (x ∷ xs) xs) x) (sym is) (0, omega arith, refl)

kept_there : (b : Bool) (y : NumberedEntry) (xs : List NumberedEntry) (x : NumberedEntry) → Contains xs x → Contains (cond b (y ∷ xs) xs) x
kept_there true y xs x (k, lt, is) = (suc k, omega arith, is)
kept_there false y xs x there = there

filter_contains : (p : NumberedEntry → Bool) (xs : List NumberedEntry) (x : NumberedEntry) → Contains xs x → p x ≡ true → Contains (filter p xs) x
filter_contains p [] x there is = absurd (omega (arith, there.1))
filter_contains p (y ∷ xs) x there is = elim (cons_cases y xs x there) [
  | inl same ↦ subst (λ (z : NumberedEntry). Contains (cond (p y) (y ∷ filter p xs) (filter p xs)) z) same (kept_here (p y) y (filter p xs) (ap p same ∙ is))
  | inr behind ↦ kept_there (p y) y (filter p xs) x (filter_contains p xs x behind is)
]

-- ---- the first of those with numbers from one on

-- the first that is given is the first of them
head_given : (given : List Numbered) (xs : List NumberedEntry) (one : Numbered) → given_entries given ≡ take 1 xs → one ≡ get_or given 0 one → 0 < length given
    → (rest : List NumberedEntry) × (xs ≡ record { number = one.number; entry = one.entry } ∷ rest)
head_given [] xs one is place some = absurd (omega arith)
head_given (x ∷ more) [] one is place some = absurd (omega (arith, ap length is))
head_given (x ∷ more) (y ∷ ys) one is place some =
    (ys, ap (λ (z : NumberedEntry). z ∷ ys) (sym (ap (λ (o : Numbered). record { number = o.number; entry = o.entry }) place ∙ ap (λ (l : List NumberedEntry). get_or l 0 y) is)))

none_given : (given : List Numbered) (xs : List NumberedEntry) → given_entries given ≡ take 1 xs → length given ≤ 0 → xs ≡ []
none_given [] [] is none = refl
none_given [] (y ∷ ys) is none = absurd (omega (arith, ap length is))
none_given (x ∷ more) xs is none = absurd (omega arith)

module _ (s : SpoolState) (n : ℕ) where
  -- an entry of that number is one of them
  from_contains : (one : NumberedEntry) → IsPending s n one → Contains (left_from s n) one
  from_contains one pending = filter_contains (λ e. nat_le n e.number) (left s) one pending.here (le-leb n one.number (omega (arith, pending.number_is)))

  -- and the first one, where there is one, is left with a number from there on
  first_left : (one : NumberedEntry) (rest : List NumberedEntry) → left_from s n ≡ one ∷ rest → Contains (left s) one
  first_left one rest is =
      All-head (Contains (left s)) one rest (subst (All (Contains (left s))) is (All-filter (λ e. nat_le n e.number) (Contains (left s)) (left s) (All-contains_itself (left s))))

  first_above : (one : NumberedEntry) (rest : List NumberedEntry) → left_from s n ≡ one ∷ rest → n ≤ one.number
  first_above one rest is =
      leb-true n one.number (All-head (λ (e : NumberedEntry). nat_le n e.number ≡ true) one rest
      (subst (All (λ (e : NumberedEntry). nat_le n e.number ≡ true)) is (filter_passes (λ e. nat_le n e.number) (left s))))

  first_least : (one : NumberedEntry) (rest : List NumberedEntry) (x : NumberedEntry) → left_from s n ≡ one ∷ rest → Contains (left_from s n) x → one.number ≤ x.number
  first_least one rest x is there =
      let rises = subst (Rises 0) is (rises_filter (λ e. nat_le n e.number) 0 (left s) (left_rises s)) in
      elim (cons_cases one rest x (subst (λ (l : List NumberedEntry). Contains l x) is there)) [
        | inl same ↦ omega (arith, ap (λ (e : NumberedEntry). e.number) same)
        | inr behind ↦ let later = all_from (one.number + 1) rest rises.1 behind.0 x behind.1 in omega (arith, later, ap (λ (e : NumberedEntry). e.number) behind.2)
      ]

module _ (s : SpoolState) (number : ℕ) (given : List Numbered) (is : given_entries given ≡ take 1 (left_from s number)) where
  -- the first that is given has that number
  pub first_pending : (one : Numbered) → one ≡ get_or given 0 one → 0 < length given → one.number ≡ number → (found : NumberedEntry) × IsPending s number found × (found.entry.event ≡ one.entry.event)
  first_pending one place some same =
      let first = head_given given (left_from s number) one is place some in
      let found : NumberedEntry = record { number = one.number; entry = one.entry } in
      (found, record { here = first_left s number found first.0 first.1; number_is = same }, refl)

  -- the first has another
  pub other_first : (one : Numbered) → one ≡ get_or given 0 one → 0 < length given → (one.number ≡ number → ⊥) → (found : NumberedEntry) → IsPending s number found → ⊥
  other_first one place some other found pending =
      let first = head_given given (left_from s number) one is place some in
      let head : NumberedEntry = record { number = one.number; entry = one.entry } in
      let least = first_least s number head first.0 found first.1 (from_contains s number found pending) in
      other (omega (arith, least, pending.number_is, first_above s number head first.0 first.1))

  -- none is given
  pub none_first : length given ≤ 0 → (found : NumberedEntry) → IsPending s number found → ⊥
  none_first none found pending =
      let there = subst (λ (l : List NumberedEntry). Contains l found) (none_given given (left_from s number) is none) (from_contains s number found pending) in
      omega (arith, there.1)

-- no entry has a number at or above the end
pub past_end : (s : SpoolState) (number : ℕ) → end s ≤ number → (found : NumberedEntry) → IsPending s number found → ⊥
past_end s number past found pending =
    let of : IsOf (base s) (end s) found = All-contains (IsOf (base s) (end s)) (left s) found (left_of s) pending.here in
    omega (arith, of.most, pending.number_is)
