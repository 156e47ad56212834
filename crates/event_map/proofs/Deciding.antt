-- Facts that hold or don't.
use Rattle.std.proofs.Common.{◌≡◌, ℕ, zero, suc, ◌≤◌, ◌⊎◌, inl, inr, Bool, true, false, ◌==◌, List, [], ◌∷◌, refl, ap₂, subst, arith}
use Rattle.std.proofs.lemmas.Bool.{eqb-true, eqb-false, cases_lt}

-- it holds, or it doesn't
abbrev pub Decided : Type 0 → Type 0
Decided X = X ⊎ (X → ⊥)

-- one of two, by which it is
abbrev pub choose : {X A : Type 0} → Decided X → A → A → A
choose (inl x) a b = a
choose (inr never) a b = b

pub choose_yes : {X A : Type 0} (d : Decided X) (a b : A) → X → choose d a b ≡ a
choose_yes (inl x) a b h = refl
choose_yes (inr never) a b h = absurd (never h)

pub choose_no : {X A : Type 0} (d : Decided X) (a b : A) → (X → ⊥) → choose d a b ≡ b
choose_no (inl x) a b h = absurd (h x)
choose_no (inr never) a b h = refl

pub both : {X Y : Type 0} → Decided X → Decided Y → Decided (X × Y)
both (inl x) (inl y) = inl (x, y)
both (inl x) (inr never) = inr (λ p. never p.1)
both (inr never) d = inr (λ p. never p.0)

-- one of the numbers up to n
pub some_up_to : (P : ℕ → Type 0) → ((i : ℕ) → Decided (P i)) → (n : ℕ) → Decided ((i : ℕ) × (i ≤ n) × P i)
some_up_to P d zero = go (d zero)
  where
    go : Decided (P zero) → Decided ((i : ℕ) × (i ≤ zero) × P i)
    go (inl p) = inl (zero, omega arith, p)
    go (inr never) = inr (λ q. let e : q.0 ≡ zero = omega (arith, q.1) in never (subst P e q.2))
some_up_to P d (suc n) = go (d (suc n)) (some_up_to P d n)
  where
    go : Decided (P (suc n)) → Decided ((i : ℕ) × (i ≤ n) × P i) → Decided ((i : ℕ) × (i ≤ suc n) × P i)
    go (inl p) e = inl (suc n, omega arith, p)
    go (inr never) (inl q) = inl (q.0, omega (arith, q.1), q.2)
    go (inr never) (inr none) = inr (λ q. last q.0 q.1 q.2 (some_or_last q.0 q.1))
      where
        some_or_last : (i : ℕ) → i ≤ suc n → (i ≤ n) ⊎ (i ≡ suc n)
        some_or_last i h = elim (cases_lt i (suc n)) [ inl lt ↦ inl (omega arith) | inr le ↦ inr (omega arith) ]

        last : (i : ℕ) → i ≤ suc n → P i → (i ≤ n) ⊎ (i ≡ suc n) → ⊥
        last i h p (inl le) = none (i, le, p)
        last i h p (inr e) = never (subst P e p)

pub at_most : (m n : ℕ) → Decided (m ≤ n)
at_most m n = elim (cases_lt n m) [ inl lt ↦ inr (λ le. omega arith) | inr le ↦ inl le ]

pub same_list : (xs ys : List ℕ) → Decided (xs ≡ ys)
same_list [] [] = inl refl
same_list [] (y ∷ ys) = inr (λ e. absurd cc)
same_list (x ∷ xs) [] = inr (λ e. absurd cc)
same_list (x ∷ xs) (y ∷ ys) = go (x == y) refl (same_list xs ys)
  where
    go : (b : Bool) → (x == y) ≡ b → Decided (xs ≡ ys) → Decided (x ∷ xs ≡ y ∷ ys)
    go false e d = inr (λ h. eqb-false x y e (cc))
    go true e (inl same) = inl (ap₂ (λ (z : ℕ) (zs : List ℕ). z ∷ zs) (eqb-true x y e) same)
    go true e (inr never) = inr (λ h. never (cc))
