-- Numbers that are apart have one form: which are known says what the cursor and the stretches are.
use Rattle.std.proofs.Common.{◌≡◌, ◌↔◌, inl, inr, ℕ, ◌<◌, ◌≤◌, List, [], ◌∷◌, refl, sym, ap₂, subst, arith}
use Rattle.std.proofs.lemmas.Bool.{cases_lt}
use Rattle.known_numbers.specs.declared.stretch.Stretch.{Stretch}
use Rattle.known_numbers.specs.Numbers.{IsInSome, AreApart, Numbers, numbers_of, IsKnown}
use Rattle.known_numbers.proofs.Adding.{same_stretch}

-- the numbers of stretches are above the number above which the first begins
pub all_above : (b : ℕ) (ss : List Stretch) (n : ℕ) → AreApart b ss → IsInSome ss n → b < n
all_above b [] n apart h = absurd h
all_above b (s ∷ ss) n apart (inl h) = omega (arith, apart.0, h.0)
all_above b (s ∷ ss) n apart (inr h) = let k = all_above s.to ss n apart.2 h in omega (arith, apart.0, apart.1, k)

-- the cursor isn't known
pub cursor_unknown : (numbers : Numbers) → AreApart numbers.cursor numbers.stretches → IsKnown numbers numbers.cursor → ⊥
cursor_unknown numbers apart (inl h) = omega (arith, h)
cursor_unknown numbers apart (inr h) = let k = all_above numbers.cursor numbers.stretches numbers.cursor apart h in omega (arith, k)

-- the end of the first stretch is in none
end_unknown : (b : ℕ) (s : Stretch) (ss : List Stretch) → AreApart b (s ∷ ss) → IsInSome (s ∷ ss) s.to → ⊥
end_unknown b s ss apart (inl h) = omega (arith, h.1)
end_unknown b s ss apart (inr h) = let k = all_above s.to ss s.to apart.2 h in omega (arith, k)

-- where the first stretch has a number of others, these begin at or below it
first_from : (b : ℕ) (s t : Stretch) (ss ts : List Stretch) → AreApart b (s ∷ ss) → AreApart b (t ∷ ts) → ((n : ℕ) → IsInSome (s ∷ ss) n → IsInSome (t ∷ ts) n) → t.from ≤ s.from
first_from b s t ss ts one other known = from (known s.from (inl (omega arith, one.1))) where
  from : IsInSome (t ∷ ts) s.from → t.from ≤ s.from
  from (inl h) = h.0
  from (inr h) = let k = all_above t.to ts s.from other.2 h in omega (arith, k, other.1)

-- where they begin alike and the first has the numbers of the others, these end at or below it
first_to : (b : ℕ) (s t : Stretch) (ss ts : List Stretch) → AreApart b (s ∷ ss) → s.from ≡ t.from → ((n : ℕ) → IsInSome (t ∷ ts) n → IsInSome (s ∷ ss) n) → t.to ≤ s.to
first_to b s t ss ts one same known = elim (cases_lt s.to t.to) [
  | inl h ↦ absurd (end_unknown b s ss one (known s.to (inl (omega (arith, one.1), h))))
  | inr h ↦ h
]

rest_known : (b : ℕ) (s : Stretch) (ss ts : List Stretch) → AreApart b (s ∷ ss) → ((n : ℕ) → IsInSome (s ∷ ss) n → IsInSome (s ∷ ts) n) → (n : ℕ) → IsInSome ss n → IsInSome ts n
rest_known b s ss ts one known n h = rest (known n (inr h)) where
  rest : IsInSome (s ∷ ts) n → IsInSome ts n
  rest (inr k) = k
  rest (inl k) = let above = all_above s.to ss n one.2 h in absurd (omega (arith, above, k.1))

-- stretches that are apart and have the same numbers are the same
pub same_stretches : (b : ℕ) (ss ts : List Stretch) → AreApart b ss → AreApart b ts → ((n : ℕ) → IsInSome ss n ↔ IsInSome ts n) → ss ≡ ts
same_stretches b [] [] one other known = refl
same_stretches b [] (t ∷ ts) one other known = absurd ((known t.from).1 (inl (omega arith, other.1)))
same_stretches b (s ∷ ss) [] one other known = absurd ((known s.from).0 (inl (omega arith, one.1)))
same_stretches b (s ∷ ss) (t ∷ ts) one other known =
    let from : s.from ≡ t.from = omega (arith, first_from b s t ss ts one other (λ n. (known n).0), first_from b t s ts ss other one (λ n. (known n).1)) in
    let to : s.to ≡ t.to = omega (arith, first_to b s t ss ts one from (λ n. (known n).1), first_to b t s ts ss other (sym from) (λ n. (known n).0)) in
    let same : s ≡ t = same_stretch s t from to in
    let other' : AreApart b (s ∷ ts) = subst (λ (x : Stretch). AreApart b (x ∷ ts)) (sym same) other in
    let known' : (n : ℕ) → IsInSome (s ∷ ss) n ↔ IsInSome (s ∷ ts) n = subst (λ (x : Stretch). (n : ℕ) → IsInSome (s ∷ ss) n ↔ IsInSome (x ∷ ts) n) (sym same) known in
    ap₂ (λ (x : Stretch) (xs : List Stretch). x ∷ xs) same (same_stretches s.to ss ts one.2 other'.2 (λ n. (rest_known b s ss ts one (λ k. (known' k).0) n, rest_known b s ts ss other' (λ k. (known' k).1) n)))

-- Numbers that are apart, where the same are known, are the same: the cursor is the least that isn't known, and
-- the stretches are the longest runs of known ones above it.
pub one_form : (a b : Numbers) → AreApart a.cursor a.stretches → AreApart b.cursor b.stretches → ((n : ℕ) → IsKnown a n ↔ IsKnown b n) → a ≡ b
one_form a b one other known =
    let same : a.cursor ≡ b.cursor = omega (arith, cursor_above a b other (λ n. (known n).0), cursor_above b a one (λ n. (known n).1)) in
    let other' : AreApart a.cursor b.stretches = subst (λ (x : ℕ). AreApart x b.stretches) (sym same) other in
    let stretches : a.stretches ≡ b.stretches = same_stretches a.cursor a.stretches b.stretches one other' (λ n. (above a b one same (λ k. (known k).0) n, above b a other (sym same) (λ k. (known k).1) n)) in
    ap₂ numbers_of same stretches where
      cursor_above : (x y : Numbers) → AreApart y.cursor y.stretches → ((n : ℕ) → IsKnown x n → IsKnown y n) → x.cursor ≤ y.cursor
      cursor_above x y apart known = elim (cases_lt y.cursor x.cursor) [ inl h ↦ absurd (cursor_unknown y apart (known y.cursor (inl h))) | inr h ↦ h ]

      above : (x y : Numbers) → AreApart x.cursor x.stretches → x.cursor ≡ y.cursor → ((n : ℕ) → IsKnown x n → IsKnown y n) → (n : ℕ) → IsInSome x.stretches n → IsInSome y.stretches n
      above x y apart same known n h = elim (known n (inr h)) [ inl k ↦ let more = all_above x.cursor x.stretches n apart h in absurd (omega (arith, more, k)) | inr k ↦ k ]
