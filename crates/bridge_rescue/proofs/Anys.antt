-- What holds of some element, where elements are added.
use Rattle.std.proofs.Common.{◌≡◌, ◌⊎◌, inl, inr, ℕ, zero, suc, ◌<◌, List, [], ◌∷◌, ◌++◌, length, get_or, take, drop, refl, sym, subst, arith, take-append-drop}
use Rattle.std.specs.List.{Any, insert}

module _ {X : Type 0} (P : X → Type 0) where
  pub any_here : (x : X) (xs : List X) → P x → Any P (x ∷ xs)
  any_here x xs p = (0, x, omega arith, refl, p)

  any_later : (x : X) (xs : List X) → Any P xs → Any P (x ∷ xs)
  any_later x xs a = (suc a.0, a.1, omega (arith, a.2), a.3, a.4)

  first_or_later : (x : X) (xs : List X) (k : ℕ) (y : X) → k < length (x ∷ xs) → get_or (x ∷ xs) k y ≡ y → P y → P x ⊎ Any P xs
  first_or_later x xs zero y lt is p = inl (subst P (sym is) p)
  first_or_later x xs (suc k) y lt is p = inr (k, y, omega (arith, lt), is, p)

  any_first : (x : X) (xs : List X) → Any P (x ∷ xs) → P x ⊎ Any P xs
  any_first x xs a = first_or_later x xs a.0 a.1 a.2 a.3 a.4

  any_none : Any P [] → ⊥
  any_none a = omega (arith, a.2)

  pub any_before : (xs ys : List X) → Any P xs → Any P (xs ++ ys)
  any_before [] ys a = absurd (any_none a)
  any_before (x ∷ xs) ys a = elim (any_first x xs a) [ inl p ↦ any_here x (xs ++ ys) p | inr later ↦ any_later x (xs ++ ys) (any_before xs ys later) ]

  pub any_behind : (xs ys : List X) → Any P ys → Any P (xs ++ ys)
  any_behind [] ys a = a
  any_behind (x ∷ xs) ys a = any_later x (xs ++ ys) (any_behind xs ys a)

  any_parts : (xs ys : List X) → Any P (xs ++ ys) → Any P xs ⊎ Any P ys
  any_parts [] ys a = inr a
  any_parts (x ∷ xs) ys a = elim (any_first x (xs ++ ys) a) [
    | inl p ↦ inl (any_here x xs p)
    | inr later ↦ elim (any_parts xs ys later) [ inl front ↦ inl (any_later x xs front) | inr back ↦ inr back ]
  ]

  pub any_inserted : (xs : List X) (k : ℕ) (y : X) → P y → Any P (insert xs k y)
  any_inserted xs k y p = any_behind (take k xs) (y ∷ drop k xs) (any_here y (drop k xs) p)

  pub any_kept : (xs : List X) (k : ℕ) (y : X) → Any P xs → Any P (insert xs k y)
  any_kept xs k y a = elim (any_parts (take k xs) (drop k xs) (subst (Any P) (sym (take-append-drop k xs)) a)) [
    | inl front ↦ any_before (take k xs) (y ∷ drop k xs) front
    | inr back ↦ any_behind (take k xs) (y ∷ drop k xs) (any_later y (drop k xs) back)
  ]
