-- The walk over the stretches for the next number that isn't known.
use Rattle.std.proofs.Common.{◌≡◌, inl, inr, ℕ, ◌<◌, ◌≤◌, max, List, [], ◌∷◌, arith}
use Rattle.std.proofs.lemmas.Bool.{cases_lt}
use Rattle.known_numbers.specs.declared.stretch.Stretch.{Stretch}
use Rattle.known_numbers.specs.Numbers.{IsInSome, AreApart, Numbers, IsKnown, IsNextUnknown}
use Rattle.known_numbers.proofs.Raising.{apart_lower}
use Rattle.known_numbers.proofs.OneForm.{all_above}

-- What is left of the stretches has all their numbers from one on, and no others.
pub record IsLeft (all : List Stretch) (start : ℕ) (rest : List Stretch) : Type 0 where
  pub apart : AreApart 0 rest
  pub has : (n : ℕ) → start ≤ n → IsInSome all n → IsInSome rest n
  pub within : (n : ℕ) → IsInSome rest n → IsInSome all n

pub left_all : (c start : ℕ) (all : List Stretch) → AreApart c all → IsLeft all start all
left_all c start all apart = record { apart = apart_lower 0 c all (omega arith) apart; has = λ n _ h. h; within = λ n h. h }

pub left_more : (all : List Stretch) (start : ℕ) (s : Stretch) (ss : List Stretch) → IsLeft all start (s ∷ ss) → s.to ≤ start → IsLeft all start ss
left_more all start s ss left passed = record { apart = apart_lower 0 s.to ss (omega arith) left.apart.2; has = λ n from h. rest n from (left.has n from h); within = λ n h. left.within n (inr h) } where
  rest : (n : ℕ) → start ≤ n → IsInSome (s ∷ ss) n → IsInSome ss n
  rest n from (inl h) = absurd (omega (arith, h.1, from, passed))
  rest n from (inr h) = h

-- a number that what is left doesn't have, while it has those from the start to it
next_at : (a : Numbers) (from start n : ℕ) (rest : List Stretch) → start ≡ max from a.cursor → IsLeft a.stretches start rest → start ≤ n → (IsInSome rest n → ⊥) → ((k : ℕ) → start ≤ k → k < n → IsInSome rest k) → IsNextUnknown a from n
next_at a from start n rest e left le unknown between = record { above = omega arith; unknown = none; passed = all } where
  none : IsKnown a n → ⊥
  none (inl h) = omega (arith, h)
  none (inr h) = unknown (left.has n le h)

  all : (k : ℕ) → from ≤ k → k < n → IsKnown a k
  all k f t = elim (cases_lt k a.cursor) [ inl h ↦ inl h | inr h ↦ inr (left.within k (between k (omega arith) t)) ]

pub next_before : (a : Numbers) (from start : ℕ) (s : Stretch) (ss : List Stretch) → start ≡ max from a.cursor → IsLeft a.stretches start (s ∷ ss) → start < s.from → IsNextUnknown a from start
next_before a from start s ss e left before = next_at a from start start (s ∷ ss) e left (omega arith) none (λ k f t. absurd (omega (arith, f, t))) where
  none : IsInSome (s ∷ ss) start → ⊥
  none (inl h) = omega (arith, h.0, before)
  none (inr h) = let k = all_above s.to ss start left.apart.2 h in omega (arith, k, left.apart.1, before)

pub next_after : (a : Numbers) (from start : ℕ) (s : Stretch) (ss : List Stretch) → start ≡ max from a.cursor → IsLeft a.stretches start (s ∷ ss) → s.from ≤ start → start < s.to → IsNextUnknown a from s.to
next_after a from start s ss e left within more = next_at a from start s.to (s ∷ ss) e left (omega arith) none (λ k f t. inl (omega (arith, f), t)) where
  none : IsInSome (s ∷ ss) s.to → ⊥
  none (inl h) = omega (arith, h.1)
  none (inr h) = let k = all_above s.to ss s.to left.apart.2 h in omega (arith, k)

pub next_end : (a : Numbers) (from start : ℕ) → start ≡ max from a.cursor → IsLeft a.stretches start [] → IsNextUnknown a from start
next_end a from start e left = next_at a from start start [] e left (omega arith) (λ h. h) (λ k f t. absurd (omega (arith, f, t)))
