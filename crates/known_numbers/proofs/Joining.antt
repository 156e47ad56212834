-- The known numbers joined with those of a stretch.
use Rattle.std.proofs.Common.{◌≡◌, ◌⊎◌, ◌↔◌, inl, inr, ℕ, ◌+◌, ◌<◌, ◌≤◌, max, leb, cond, List, length, refl, sym, ◌∙◌, ap, subst, arith, le-leb}
use Rattle.std.proofs.lemmas.Bool.{cases_lt, cond-true, cond-false, lt-leb}
use Rattle.known_numbers.specs.declared.stretch.Stretch.{Stretch}
use Rattle.known_numbers.specs.Numbers.{IsWithin, IsInSome, AreApart, EndBy, count_of, Numbers, numbers_of, IsKnown, raised, added, joined}
use Rattle.known_numbers.proofs.Raising.{total_of, raised_knows, raised_apart, raised_ends, raised_few, raised_reaches, raised_same, raised_rises}
use Rattle.known_numbers.proofs.Adding.{added_knows, added_apart, added_ends, added_few, added_rises}
use Rattle.known_numbers.proofs.OneForm.{one_form}

pub joined_empty : (a : Numbers) (m : Stretch) → m.to ≤ m.from → a ≡ joined a m
joined_empty a m h = sym (cond-true (leb m.to m.from) a (cond (leb m.from a.cursor) (raised (max a.cursor m.to) a.stretches) (numbers_of a.cursor (added m a.stretches))) (le-leb m.to m.from h))

pub joined_low : (a : Numbers) (m : Stretch) → m.from < m.to → m.from ≤ a.cursor → raised (max a.cursor m.to) a.stretches ≡ joined a m
joined_low a m some h =
    sym (cond-false (leb m.to m.from) a (cond (leb m.from a.cursor) (raised (max a.cursor m.to) a.stretches) (numbers_of a.cursor (added m a.stretches))) (lt-leb m.to m.from some) ∙ cond-true (leb m.from a.cursor) (raised (max a.cursor m.to) a.stretches) (numbers_of a.cursor (added m a.stretches)) (le-leb m.from a.cursor h))

pub joined_high : (a : Numbers) (m : Stretch) → m.from < m.to → a.cursor < m.from → numbers_of a.cursor (added m a.stretches) ≡ joined a m
joined_high a m some h =
    sym (cond-false (leb m.to m.from) a (cond (leb m.from a.cursor) (raised (max a.cursor m.to) a.stretches) (numbers_of a.cursor (added m a.stretches))) (lt-leb m.to m.from some) ∙ cond-false (leb m.from a.cursor) (raised (max a.cursor m.to) a.stretches) (numbers_of a.cursor (added m a.stretches)) (lt-leb m.from a.cursor h))

-- what holds in each case holds of the numbers joined
pub by_cases : (P : Numbers → Type 0) (a : Numbers) (m : Stretch) → (m.to ≤ m.from → P a) → (m.from < m.to → m.from ≤ a.cursor → P (raised (max a.cursor m.to) a.stretches)) → (m.from < m.to → a.cursor < m.from → P (numbers_of a.cursor (added m a.stretches))) → P (joined a m)
by_cases P a m empty low high = elim (cases_lt m.from m.to) [
  | inr h ↦ subst P (joined_empty a m h) (empty h)
  | inl some ↦ elim (cases_lt a.cursor m.from) [
    | inl h ↦ subst P (joined_high a m some h) (high some h)
    | inr h ↦ subst P (joined_low a m some h) (low some h)
  ]
]

-- the numbers of both, and no others
pub joined_knows : (a : Numbers) (m : Stretch) (n : ℕ) → IsKnown (joined a m) n ↔ (IsKnown a n ⊎ IsWithin m n)
joined_knows a m n =
    by_cases (λ x. IsKnown x n ↔ (IsKnown a n ⊎ IsWithin m n)) a m (λ h. (λ k. inl k, empty h)) (λ some h. low h (raised_knows (max a.cursor m.to) a.stretches n)) (λ some h. high (added_knows m a.stretches n)) where
      empty : m.to ≤ m.from → IsKnown a n ⊎ IsWithin m n → IsKnown a n
      empty h (inl k) = k
      empty h (inr k) = absurd (omega (arith, k.0, k.1))

      low : m.from ≤ a.cursor → (IsKnown (raised (max a.cursor m.to) a.stretches) n ↔ ((n < max a.cursor m.to) ⊎ IsInSome a.stretches n)) → IsKnown (raised (max a.cursor m.to) a.stretches) n ↔ (IsKnown a n ⊎ IsWithin m n)
      low h same = (λ k. forth (same.0 k), λ k. same.1 (back k)) where
        forth : (n < max a.cursor m.to) ⊎ IsInSome a.stretches n → IsKnown a n ⊎ IsWithin m n
        forth (inr k) = inl (inr k)
        forth (inl k) = elim (cases_lt n a.cursor) [ inl below ↦ inl (inl below) | inr above ↦ inr (omega arith, omega arith) ]

        back : IsKnown a n ⊎ IsWithin m n → (n < max a.cursor m.to) ⊎ IsInSome a.stretches n
        back (inl (inl k)) = inl (omega (arith, k))
        back (inl (inr k)) = inr k
        back (inr k) = inl (omega (arith, k.1))

      high : (IsInSome (added m a.stretches) n ↔ (IsInSome a.stretches n ⊎ IsWithin m n)) → IsKnown (numbers_of a.cursor (added m a.stretches)) n ↔ (IsKnown a n ⊎ IsWithin m n)
      high same = (forth, back) where
        forth : IsKnown (numbers_of a.cursor (added m a.stretches)) n → IsKnown a n ⊎ IsWithin m n
        forth (inl k) = inl (inl k)
        forth (inr k) = elim (same.0 k) [ inl old ↦ inl (inr old) | inr new ↦ inr new ]

        back : IsKnown a n ⊎ IsWithin m n → IsKnown (numbers_of a.cursor (added m a.stretches)) n
        back (inl (inl k)) = inl k
        back (inl (inr k)) = inr (same.1 (inl k))
        back (inr k) = inr (same.1 (inr k))

-- they are apart
pub joined_apart : (a : Numbers) (m : Stretch) → AreApart a.cursor a.stretches → AreApart (joined a m).cursor (joined a m).stretches
joined_apart a m apart =
    by_cases (λ x. AreApart x.cursor x.stretches) a m (λ _. apart) (λ _ _. raised_apart a.cursor (max a.cursor m.to) a.stretches (omega arith) apart) (λ some h. added_apart a.cursor m a.stretches h some apart)

-- So `joined` is the one form of the numbers of both: the cursor is the least that is in neither, and the
-- stretches are the longest runs above it.
pub joined_is : (a : Numbers) (m : Stretch) (b : Numbers) → AreApart a.cursor a.stretches → AreApart b.cursor b.stretches → ((n : ℕ) → IsKnown b n ↔ (IsKnown a n ⊎ IsWithin m n)) → joined a m ≡ b
joined_is a m b apart other known =
    one_form (joined a m) b (joined_apart a m apart) other (λ n. (λ h. (known n).1 ((joined_knows a m n).0 h), λ h. (joined_knows a m n).1 ((known n).0 h)))

-- a stretch of known numbers changes nothing
pub joined_same : (a : Numbers) (m : Stretch) → AreApart a.cursor a.stretches → ((n : ℕ) → IsWithin m n → IsKnown a n) → joined a m ≡ a
joined_same a m apart known = joined_is a m a apart apart (λ n. (λ h. inl h, back n)) where
  back : (n : ℕ) → IsKnown a n ⊎ IsWithin m n → IsKnown a n
  back n (inl h) = h
  back n (inr h) = known n h

pub joined_ends : (e : ℕ) (a : Numbers) (m : Stretch) → a.cursor ≤ e → EndBy e a.stretches → m.to ≤ e → ((joined a m).cursor ≤ e) × EndBy e (joined a m).stretches
joined_ends e a m cursor ends to =
    by_cases (λ x. (x.cursor ≤ e) × EndBy e x.stretches) a m (λ _. (cursor, ends)) (λ _ _. raised_ends e (max a.cursor m.to) a.stretches (omega arith) ends) (λ _ _. (cursor, added_ends e m a.stretches to ends))

-- one stretch more at most, and none more where it reaches the cursor
pub joined_few : (a : Numbers) (m : Stretch) → length (joined a m).stretches ≤ length a.stretches + 1
joined_few a m =
    by_cases (λ x. length x.stretches ≤ length a.stretches + 1) a m (λ _. omega arith) (λ _ _. let k = raised_few (max a.cursor m.to) a.stretches in omega (arith, k)) (λ _ _. added_few m a.stretches)

pub joined_low_few : (a : Numbers) (m : Stretch) → m.from ≤ a.cursor → length (joined a m).stretches ≤ length a.stretches
joined_low_few a m low =
    by_cases (λ x. length x.stretches ≤ length a.stretches) a m (λ _. omega arith) (λ _ _. raised_few (max a.cursor m.to) a.stretches) (λ _ h. absurd (omega (arith, h, low)))

pub joined_low_reaches : (a : Numbers) (m : Stretch) → m.from ≤ a.cursor → m.from < m.to → m.to ≤ (joined a m).cursor
joined_low_reaches a m low some =
    by_cases (λ x. m.to ≤ x.cursor) a m (λ h. absurd (omega (arith, h, some))) (λ _ _. let k = raised_reaches (max a.cursor m.to) a.stretches in omega (arith, k)) (λ _ h. absurd (omega (arith, h, low)))

-- they are the same, or the sum of the cursor and the count rises
pub joined_rises : (a : Numbers) (m : Stretch) → AreApart a.cursor a.stretches → (joined a m ≡ a) ⊎ (total_of a < total_of (joined a m))
joined_rises a m apart =
    by_cases (λ x. (x ≡ a) ⊎ (total_of a < total_of x)) a m (λ _. inl refl) (λ _ _. low) (λ some h. high (added_rises a.cursor m a.stretches some apart)) where
      low : (raised (max a.cursor m.to) a.stretches ≡ a) ⊎ (total_of a < total_of (raised (max a.cursor m.to) a.stretches))
      low = elim (cases_lt a.cursor (max a.cursor m.to)) [
        | inl more ↦ inr (raised_rises a.cursor (max a.cursor m.to) a.stretches more apart)
        | inr same ↦ let e : max a.cursor m.to ≡ a.cursor = omega arith in inl (ap (λ (x : ℕ). raised x a.stretches) e ∙ raised_same a.cursor a.stretches apart)
      ]

      high : (added m a.stretches ≡ a.stretches) ⊎ (count_of a.stretches < count_of (added m a.stretches)) → (numbers_of a.cursor (added m a.stretches) ≡ a) ⊎ (total_of a < total_of (numbers_of a.cursor (added m a.stretches)))
      high (inl same) = inl (ap (λ (x : List Stretch). numbers_of a.cursor x) same)
      high (inr more) = inr (omega (arith, more))
