-- What the source has of the index of an entry that is looked at.
use Rattle.std.proofs.Common.{◌≡◌, ◌⊎◌, inl, inr, ℕ, zero, suc, ◌+◌, ◌<◌, ◌≤◌, Bool, true, false, cond, List, [], ◌∷◌, length, take, get_or, refl, sym, ◌∙◌, ap, subst, arith}
use Rattle.std.specs.Prelude.{All, nat_le}
use Rattle.std.specs.List.{Contains, filter}
use Rattle.std.proofs.lemmas.Bool.{leb-true, le-leb}
use Rattle.std.proofs.lemmas.List.Elements.{All-contains_itself, All-filter, All-head, filter_passes}
use Rattle.event_form.specs.declared.event.Entry.{Entry}
use Rattle.spool_state.specs.SpoolState.{SpoolState}
use Rattle.spool_state.specs.Left.{NumberedEntry, left, left_from}
use Rattle.spool_faults.specs.declared.fault.PendFault.{PendFault}
use Rattle.spool_faults.specs.declared.fault.PendFault.TheVariants as Pend
use Rattle.spool_answers.specs.declared.numbered.Numbered.{Numbered}
use Rattle.spool_answers.specs.Pend.{IsNotBroken, given_entries}
use Rattle.spool_move.specs.Fault.{of_source, of_target}
use Rattle.spool_move.specs.Reading.{as_entry, IsOwned, IsReading}
use Rattle.spool_move.proofs.Rising.{Rises, left_rises, all_from, rises_filter}

pub reading_source : (fault : PendFault) → IsNotBroken fault → IsReading (of_source fault)
reading_source (Pend.NotSpool at) is = absurd is
reading_source Pend.DiskFault is = tt
reading_source Pend.NoMemory is = tt

pub reading_target : (fault : PendFault) → IsNotBroken fault → IsReading (of_target fault)
reading_target (Pend.NotSpool at) is = absurd is
reading_target Pend.DiskFault is = tt
reading_target Pend.NoMemory is = tt

-- ---- elements of lists

pub cons_cases : (y : NumberedEntry) (xs : List NumberedEntry) (x : NumberedEntry) → Contains (y ∷ xs) x → (y ≡ x) ⊎ Contains xs x
cons_cases y xs x (zero, lt, is) = inl is
cons_cases y xs x (suc k, lt, is) = inr (k, omega arith, is)

pub cons_here : (x : NumberedEntry) (xs : List NumberedEntry) → Contains (x ∷ xs) x
cons_here x xs = (0, omega arith, refl)

pub cons_there : (y : NumberedEntry) (xs : List NumberedEntry) (x : NumberedEntry) → Contains xs x → Contains (y ∷ xs) x
cons_there y xs x (k, lt, is) = (suc k, omega arith, is)

kept_here : (b : Bool) (x : NumberedEntry) (xs : List NumberedEntry) → b ≡ true → Contains (cond b (x ∷ xs) xs) x
kept_here b x xs is = subst (λ (c : Bool). Contains (cond c (x ∷ xs) xs) x) (sym is) (cons_here x xs)

kept_there : (b : Bool) (y : NumberedEntry) (xs : List NumberedEntry) (x : NumberedEntry) → Contains xs x → Contains (cond b (y ∷ xs) xs) x
kept_there true y xs x there = cons_there y xs x there
kept_there false y xs x there = there

pub filter_contains : (p : NumberedEntry → Bool) (xs : List NumberedEntry) (x : NumberedEntry) → Contains xs x → p x ≡ true → Contains (filter p xs) x
filter_contains p [] x there is = absurd (omega (arith, there.1))
filter_contains p (y ∷ xs) x there is = elim (cons_cases y xs x there) [
  | inl same ↦ subst (λ (z : NumberedEntry). Contains (cond (p y) (y ∷ filter p xs) (filter p xs)) z) same (kept_here (p y) y (filter p xs) (ap p same ∙ is))
  | inr behind ↦ kept_there (p y) y (filter p xs) x (filter_contains p xs x behind is)
]

-- ---- the first of those with numbers from one on

-- the first that is given is the first of them
head_given : (given : List Numbered) (xs : List NumberedEntry) (one : Numbered) → given_entries given ≡ take 1 xs → one ≡ get_or given 0 one → 0 < length given → (rest : List NumberedEntry) × (xs ≡ as_entry one ∷ rest)
head_given [] xs one is place some = absurd (omega arith)
head_given (x ∷ more) [] one is place some = absurd (omega (arith, ap length is))
head_given (x ∷ more) (y ∷ ys) one is place some =
    (ys, ap (λ (z : NumberedEntry). z ∷ ys) (sym (ap as_entry place ∙ ap (λ (l : List NumberedEntry). get_or l 0 y) is)))

none_given : (given : List Numbered) (xs : List NumberedEntry) → given_entries given ≡ take 1 xs → length given ≤ 0 → xs ≡ []
none_given [] [] is none = refl
none_given [] (y ∷ ys) is none = absurd (omega (arith, ap length is))
none_given (x ∷ more) xs is none = absurd (omega arith)

module _ (m : SpoolState) (n : ℕ) where
  -- an entry of that number is one of them
  from_contains : (one : NumberedEntry) → Contains (left m) one → one.number ≡ n → Contains (left_from m n) one
  from_contains one here is = filter_contains (λ e. nat_le n e.number) (left m) one here (le-leb n one.number (omega (arith, is)))

  -- and the first one, where there is one, is left with a number from there on
  first_left : (one : NumberedEntry) (rest : List NumberedEntry) → left_from m n ≡ one ∷ rest → Contains (left m) one
  first_left one rest is =
      All-head (Contains (left m)) one rest (subst (All (Contains (left m))) is (All-filter (λ e. nat_le n e.number) (Contains (left m)) (left m) (All-contains_itself (left m))))

  first_above : (one : NumberedEntry) (rest : List NumberedEntry) → left_from m n ≡ one ∷ rest → n ≤ one.number
  first_above one rest is =
      leb-true n one.number (All-head (λ (e : NumberedEntry). nat_le n e.number ≡ true) one rest
      (subst (All (λ (e : NumberedEntry). nat_le n e.number ≡ true)) is (filter_passes (λ e. nat_le n e.number) (left m))))

  first_least : (one : NumberedEntry) (rest : List NumberedEntry) (x : NumberedEntry) → left_from m n ≡ one ∷ rest → Contains (left_from m n) x → one.number ≤ x.number
  first_least one rest x is there =
      let rises = subst (Rises 0) is (rises_filter (λ e. nat_le n e.number) 0 (left m) (left_rises m)) in
      elim (cons_cases one rest x (subst (λ (l : List NumberedEntry). Contains l x) is there)) [
        | inl same ↦ omega (arith, ap (λ (e : NumberedEntry). e.number) same)
        | inr behind ↦ let later = all_from (one.number + 1) rest rises.1 behind.0 x behind.1 in omega (arith, later, ap (λ (e : NumberedEntry). e.number) behind.2)
      ]

module _ (m : SpoolState) (e : Entry) (given : List Numbered) (is : given_entries given ≡ take 1 (left_from m e.index)) where
  -- it has the index of the entry, and the same event or another
  pub owned_same : (one : Numbered) → one ≡ get_or given 0 one → 0 < length given → one.number ≡ e.index → one.entry.event ≡ e.event → (own : IsOwned m e) × (own.one.entry.event ≡ e.event)
  owned_same one place some same event =
      let first = head_given given (left_from m e.index) one is place some in
      (record { one = as_entry one; here = first_left m e.index (as_entry one) first.0 first.1; number_is = same }, event)

  pub owned_other : (one : Numbered) → one ≡ get_or given 0 one → 0 < length given → one.number ≡ e.index → (one.entry.event ≡ e.event → ⊥) → (own : IsOwned m e) × (own.one.entry.event ≡ e.event → ⊥)
  owned_other one place some same event =
      let first = head_given given (left_from m e.index) one is place some in
      (record { one = as_entry one; here = first_left m e.index (as_entry one) first.0 first.1; number_is = same }, event)

  -- it has another number
  pub passed : (one : Numbered) → one ≡ get_or given 0 one → 0 < length given → (one.number ≡ e.index → ⊥) → IsOwned m e → ⊥
  passed one place some other own =
      let first = head_given given (left_from m e.index) one is place some in
      let least = first_least m e.index (as_entry one) first.0 own.one first.1 (from_contains m e.index own.one own.here own.number_is) in
      other (omega (arith, least, own.number_is, first_above m e.index (as_entry one) first.0 first.1))

  -- none is given
  pub not_owned : length given ≤ 0 → IsOwned m e → ⊥
  not_owned none own =
      let there = subst (λ (l : List NumberedEntry). Contains l own.one) (none_given given (left_from m e.index) is none) (from_contains m e.index own.one own.here own.number_is) in
      omega (arith, there.1)
