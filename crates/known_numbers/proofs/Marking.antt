-- Stretches added one after another.
use Rattle.std.proofs.Common.{◌≡◌, ◌⊎◌, inl, inr, ℕ, ◌<◌, ◌≤◌, leb, List, [], ◌∷◌, length, refl, sym, ◌∙◌, ap, subst, arith, le-leb}
use Rattle.std.proofs.lemmas.Bool.{cases_lt, cond-true, cond-false, lt-leb}
use Rattle.known_numbers.specs.declared.stretch.Stretch.{Stretch}
use Rattle.known_numbers.specs.declared.stretch.TheConstants.{MOST_STRETCHES}
use Rattle.known_numbers.specs.Numbers.{IsWithin, IsInSome, EndBy, Numbers, IsKnown, IsSound, joined, fitting, marked}
use Rattle.known_numbers.proofs.Raising.{total_of}
use Rattle.known_numbers.proofs.OneForm.{cursor_unknown}
use Rattle.known_numbers.proofs.Joining.{joined_knows, joined_apart, joined_same, joined_ends, joined_low_few, joined_low_reaches, joined_rises}

pub fitting_new : (new old : Numbers) → length new.stretches ≤ MOST_STRETCHES → new ≡ fitting new old
fitting_new new old h = sym (cond-true (leb (length new.stretches) MOST_STRETCHES) new old (le-leb (length new.stretches) MOST_STRETCHES h))

pub fitting_old : (new old : Numbers) → MOST_STRETCHES < length new.stretches → old ≡ fitting new old
fitting_old new old h = sym (cond-false (leb (length new.stretches) MOST_STRETCHES) new old (lt-leb (length new.stretches) MOST_STRETCHES h))

-- what holds of both holds of the one that is taken
pub by_cases : (P : Numbers → Type 0) (new old : Numbers) → (length new.stretches ≤ MOST_STRETCHES → P new) → P old → P (fitting new old)
by_cases P new old fits same = elim (cases_lt MOST_STRETCHES (length new.stretches)) [
  | inl h ↦ subst P (fitting_old new old h) same
  | inr h ↦ subst P (fitting_new new old h) (fits h)
]

pub marked_sound : (a : Numbers) (more : List Stretch) → IsSound a → IsSound (marked a more)
marked_sound a [] sound = sound
marked_sound a (m ∷ more) sound =
    marked_sound (fitting (joined a m) a) more (by_cases IsSound (joined a m) a (λ fits. record { apart = joined_apart a m sound.apart; few = fits }) sound)

-- what was known stays known
pub marked_keeps : (a : Numbers) (more : List Stretch) (n : ℕ) → IsKnown a n → IsKnown (marked a more) n
marked_keeps a [] n known = known
marked_keeps a (m ∷ more) n known =
    marked_keeps (fitting (joined a m) a) more n (by_cases (λ x. IsKnown x n) (joined a m) a (λ _. (joined_knows a m n).1 (inl known)) known)

-- only numbers of the stretches become known
pub marked_only : (a : Numbers) (more : List Stretch) (n : ℕ) → IsKnown (marked a more) n → IsKnown a n ⊎ IsInSome more n
marked_only a [] n known = inl known
marked_only a (m ∷ more) n known = elim (marked_only (fitting (joined a m) a) more n known) [
  | inr new ↦ inr (inr new)
  | inl old ↦ by_cases (λ x. IsKnown x n → IsKnown a n ⊎ IsInSome (m ∷ more) n) (joined a m) a (λ _ k. one ((joined_knows a m n).0 k)) (λ k. inl k) old
] where
  one : IsKnown a n ⊎ IsWithin m n → IsKnown a n ⊎ IsInSome (m ∷ more) n
  one (inl k) = inl k
  one (inr k) = inr (inl k)

-- the cursor never falls
pub marked_reaches : (a : Numbers) (more : List Stretch) → IsSound a → a.cursor ≤ (marked a more).cursor
marked_reaches a more sound = elim (cases_lt (marked a more).cursor a.cursor) [
  | inl h ↦ absurd (cursor_unknown (marked a more) (marked_sound a more sound).apart (marked_keeps a more (marked a more).cursor (inl h)))
  | inr h ↦ h
]

-- stretches of known numbers change nothing
pub marked_same : (a : Numbers) (more : List Stretch) → IsSound a → ((n : ℕ) → IsInSome more n → IsKnown a n) → marked a more ≡ a
marked_same a [] sound known = refl
marked_same a (m ∷ more) sound known =
    let same : joined a m ≡ a = joined_same a m sound.apart (λ n h. known n (inl h)) in
    let e : fitting (joined a m) a ≡ a = by_cases (λ x. x ≡ a) (joined a m) a (λ _. same) refl in
    ap (λ (x : Numbers). marked x more) e ∙ marked_same a more sound (λ n h. known n (inr h))

-- where all end at or below a number, so do they afterwards
pub marked_ends : (e : ℕ) (a : Numbers) (more : List Stretch) → a.cursor ≤ e → EndBy e a.stretches → EndBy e more → ((marked a more).cursor ≤ e) × EndBy e (marked a more).stretches
marked_ends e a [] cursor ends to = (cursor, ends)
marked_ends e a (m ∷ more) cursor ends to =
    let next = by_cases (λ x. (x.cursor ≤ e) × EndBy e x.stretches) (joined a m) a (λ _. joined_ends e a m cursor ends to.0) (cursor, ends) in
    marked_ends e (fitting (joined a m) a) more next.0 next.1 to.1

-- nothing changes, or the sum of the cursor and the count rises
pub marked_rises : (a : Numbers) (more : List Stretch) → IsSound a → (marked a more ≡ a) ⊎ (total_of a < total_of (marked a more))
marked_rises a [] sound = inl refl
marked_rises a (m ∷ more) sound =
    then (by_cases (λ x. IsSound x × ((x ≡ a) ⊎ (total_of a < total_of x))) (joined a m) a (λ fits. (record { apart = joined_apart a m sound.apart; few = fits }, joined_rises a m sound.apart)) (sound, inl refl)) (marked_rises (fitting (joined a m) a) more (marked_sound a (m ∷ []) sound)) where
      then : IsSound (fitting (joined a m) a) × ((fitting (joined a m) a ≡ a) ⊎ (total_of a < total_of (fitting (joined a m) a))) → (marked (fitting (joined a m) a) more ≡ fitting (joined a m) a) ⊎ (total_of (fitting (joined a m) a) < total_of (marked (fitting (joined a m) a) more)) → (marked (fitting (joined a m) a) more ≡ a) ⊎ (total_of a < total_of (marked (fitting (joined a m) a) more))
      then (_, inl one) (inl two) = inl (two ∙ one)
      then (_, inl one) (inr two) = let e : total_of (fitting (joined a m) a) ≡ total_of a = ap total_of one in inr (omega (arith, e, two))
      then (_, inr one) (inl two) = let e : total_of (marked (fitting (joined a m) a) more) ≡ total_of (fitting (joined a m) a) = ap total_of two in inr (omega (arith, e, one))
      then (_, inr one) (inr two) = inr (omega (arith, one, two))

-- the numbers below one
abbrev pub below : ℕ → Stretch
below n = record { from = 0; to = n }

-- the numbers below one that isn't above the cursor change nothing
pub confirmed_same : (a : Numbers) (n : ℕ) → IsSound a → n ≤ a.cursor → marked a (below n ∷ []) ≡ a
confirmed_same a n sound le = marked_same a (below n ∷ []) sound old where
  old : (k : ℕ) → IsInSome (below n ∷ []) k → IsKnown a k
  old k (inl h) = inl (omega (arith, h.1, le))
  old k (inr h) = absurd h

-- All numbers below one can always be added: that makes no stretch more, so it takes effect.
pub confirmed_fits : (a : Numbers) (n : ℕ) → IsSound a → marked a (below n ∷ []) ≡ joined a (below n)
confirmed_fits a n sound = let few = joined_low_few a (below n) (omega arith) in sym (fitting_new (joined a (below n)) a (omega (arith, few, sound.few)))

pub confirmed_reaches : (a : Numbers) (n : ℕ) → IsSound a → n ≤ (marked a (below n ∷ [])).cursor
confirmed_reaches a n sound = subst (λ (x : Numbers). n ≤ x.cursor) (sym (confirmed_fits a n sound)) reaches where
  reaches : n ≤ (joined a (below n)).cursor
  reaches = elim (cases_lt 0 n) [ inl some ↦ joined_low_reaches a (below n) (omega arith) some | inr none ↦ omega arith ]
