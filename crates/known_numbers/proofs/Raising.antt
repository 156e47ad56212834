-- The cursor raised past the stretches that it reaches.
use Rattle.std.proofs.Common.{◌≡◌, ◌⊎◌, ◌↔◌, inl, inr, ℕ, ◌+◌, ◌<◌, ◌≤◌, max, leb, List, [], ◌∷◌, length, refl, sym, ◌∙◌, ap, subst, arith, le-leb}
use Rattle.std.proofs.lemmas.Bool.{cases_lt, cond-true, cond-false, lt-leb}
use Rattle.known_numbers.specs.declared.stretch.Stretch.{Stretch}
use Rattle.known_numbers.specs.Numbers.{IsInSome, AreApart, EndBy, count_of, Numbers, numbers_of, IsKnown, raised}

-- the sum that rises where a number becomes known
abbrev pub total_of : Numbers → ℕ
total_of numbers = numbers.cursor + count_of numbers.stretches

pub raised_over : (c : ℕ) (s : Stretch) (ss : List Stretch) → s.from ≤ c → raised (max c s.to) ss ≡ raised c (s ∷ ss)
raised_over c s ss h = sym (cond-true (leb s.from c) (raised (max c s.to) ss) (numbers_of c (s ∷ ss)) (le-leb s.from c h))

pub raised_below : (c : ℕ) (s : Stretch) (ss : List Stretch) → c < s.from → numbers_of c (s ∷ ss) ≡ raised c (s ∷ ss)
raised_below c s ss h = sym (cond-false (leb s.from c) (raised (max c s.to) ss) (numbers_of c (s ∷ ss)) (lt-leb s.from c h))

pub apart_lower : (b c : ℕ) (ss : List Stretch) → b ≤ c → AreApart c ss → AreApart b ss
apart_lower b c [] h apart = tt
apart_lower b c (s ∷ ss) h apart = (omega (arith, apart.0), apart.1, apart.2)

-- what holds of the numbers in both cases holds of them raised
by_cases : (P : Numbers → Type 0) (c : ℕ) (s : Stretch) (ss : List Stretch) → (s.from ≤ c → P (raised (max c s.to) ss)) → (c < s.from → P (numbers_of c (s ∷ ss))) → P (raised c (s ∷ ss))
by_cases P c s ss over below = elim (cases_lt c s.from) [
  | inl h ↦ subst P (raised_below c s ss h) (below h)
  | inr h ↦ subst P (raised_over c s ss h) (over h)
]

-- the numbers below the cursor and those of the stretches, and no others
pub raised_knows : (c : ℕ) (ss : List Stretch) (n : ℕ) → IsKnown (raised c ss) n ↔ ((n < c) ⊎ IsInSome ss n)
raised_knows c [] n = (λ h. h, λ h. h)
raised_knows c (s ∷ ss) n =
    by_cases (λ x. IsKnown x n ↔ ((n < c) ⊎ IsInSome (s ∷ ss) n)) c s ss (λ h. over h (raised_knows (max c s.to) ss n)) (λ h. (λ k. k, λ k. k)) where
      over : s.from ≤ c → (IsKnown (raised (max c s.to) ss) n ↔ ((n < max c s.to) ⊎ IsInSome ss n)) → IsKnown (raised (max c s.to) ss) n ↔ ((n < c) ⊎ IsInSome (s ∷ ss) n)
      over h rest = (λ k. forth (rest.0 k), λ k. rest.1 (back k)) where
        forth : (n < max c s.to) ⊎ IsInSome ss n → (n < c) ⊎ IsInSome (s ∷ ss) n
        forth (inr k) = inr (inr k)
        forth (inl k) = elim (cases_lt n c) [ inl low ↦ inl low | inr high ↦ inr (inl (omega arith, omega arith)) ]

        back : (n < c) ⊎ IsInSome (s ∷ ss) n → (n < max c s.to) ⊎ IsInSome ss n
        back (inl k) = inl (omega arith)
        back (inr (inl k)) = inl (omega (arith, k.1))
        back (inr (inr k)) = inr k

-- they are apart above the cursor
pub raised_apart : (b c : ℕ) (ss : List Stretch) → b ≤ c → AreApart b ss → AreApart (raised c ss).cursor (raised c ss).stretches
raised_apart b c [] h apart = tt
raised_apart b c (s ∷ ss) h apart =
    by_cases (λ x. AreApart x.cursor x.stretches) c s ss (λ over. raised_apart s.to (max c s.to) ss (omega arith) apart.2) (λ below. (below, apart.1, apart.2))

pub raised_ends : (e c : ℕ) (ss : List Stretch) → c ≤ e → EndBy e ss → ((raised c ss).cursor ≤ e) × EndBy e (raised c ss).stretches
raised_ends e c [] h end = (h, tt)
raised_ends e c (s ∷ ss) h end =
    by_cases (λ x. (x.cursor ≤ e) × EndBy e x.stretches) c s ss (λ over. raised_ends e (max c s.to) ss (omega (arith, end.0)) end.1) (λ below. (h, end))

-- they are no more
pub raised_few : (c : ℕ) (ss : List Stretch) → length (raised c ss).stretches ≤ length ss
raised_few c [] = omega arith
raised_few c (s ∷ ss) =
    by_cases (λ x. length x.stretches ≤ length (s ∷ ss)) c s ss (λ over. let k = raised_few (max c s.to) ss in omega (arith, k)) (λ below. omega arith)

pub raised_reaches : (c : ℕ) (ss : List Stretch) → c ≤ (raised c ss).cursor
raised_reaches c [] = omega arith
raised_reaches c (s ∷ ss) =
    by_cases (λ x. c ≤ x.cursor) c s ss (λ over. let k = raised_reaches (max c s.to) ss in omega (arith, k)) (λ below. omega arith)

-- a cursor that isn't raised changes nothing
pub raised_same : (c : ℕ) (ss : List Stretch) → AreApart c ss → raised c ss ≡ numbers_of c ss
raised_same c [] apart = refl
raised_same c (s ∷ ss) apart = sym (raised_below c s ss apart.0)

-- a higher cursor raises the sum
pub raised_rises : (b c : ℕ) (ss : List Stretch) → b < c → AreApart b ss → b + count_of ss < total_of (raised c ss)
raised_rises b c [] h apart = omega arith
raised_rises b c (s ∷ ss) h apart =
    by_cases (λ x. b + count_of (s ∷ ss) < total_of x) c s ss (λ _. elim (cases_lt s.to (max c s.to)) [
      | inl more ↦ let k = raised_rises s.to (max c s.to) ss more apart.2 in omega (arith, k, apart.0, apart.1)
      | inr same ↦ subst (λ (x : Numbers). b + count_of (s ∷ ss) < total_of x) (sym (kept same)) (omega (arith, apart.0, apart.1))
    ]) (λ below. omega arith) where
      kept : max c s.to ≤ s.to → raised (max c s.to) ss ≡ numbers_of s.to ss
      kept same = let e : max c s.to ≡ s.to = omega arith in ap (λ (x : ℕ). raised x ss) e ∙ raised_same s.to ss apart.2
