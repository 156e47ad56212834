-- Whether a number is in one of some stretches.
use Rattle.std.proofs.Common.{◌⊎◌, inl, inr, ℕ, zero, suc, ◌+◌, ◌<◌, List, [], ◌∷◌, length, take, get_or, subst, add-one, arith}
use Rattle.known_numbers.specs.declared.stretch.Stretch.{Stretch}
use Rattle.known_numbers.specs.Numbers.{IsWithin, IsInSome}

-- it is in the one at that place
pub in_one : (stretches : List Stretch) (i n : ℕ) (d : Stretch) → i < length stretches → IsWithin (get_or stretches i d) n → IsInSome stretches n
in_one [] i n d lt is = absurd (omega arith)
in_one (stretch ∷ stretches) zero n d lt is = inl is
in_one (stretch ∷ stretches) (suc i) n d lt is = inr (in_one stretches i n d (omega arith) is)

-- it is in one of the first ones or in that one
in_next : (stretches : List Stretch) (i n : ℕ) (d : Stretch) → i < length stretches → IsInSome (take (suc i) stretches) n → IsInSome (take i stretches) n ⊎ IsWithin (get_or stretches i d) n
in_next [] i n d lt is = absurd (omega arith)
in_next (stretch ∷ stretches) zero n d lt (inl here) = inr here
in_next (stretch ∷ stretches) zero n d lt (inr there) = absurd there
in_next (stretch ∷ stretches) (suc i) n d lt (inl here) = inl (inl here)
in_next (stretch ∷ stretches) (suc i) n d lt (inr there) = elim (in_next stretches i n d (omega arith) there) [
  | inl before ↦ inl (inr before)
  | inr is ↦ inr is
]

pub in_more : (stretches : List Stretch) (i n : ℕ) (d : Stretch) → i < length stretches → IsInSome (take (i + 1) stretches) n → IsInSome (take i stretches) n ⊎ IsWithin (get_or stretches i d) n
in_more stretches i n d lt is = in_next stretches i n d lt (subst (λ (k : ℕ). IsInSome (take k stretches) n) (add-one i) is)
