-- Numbers: RFC 8259, section 6.
use Rattle.std.specs.Prelude.{◌≡◌, ℕ, ◌⊎◌, Bool, true, nat_le, ◌&&◌, List, [], ◌∷◌, ◌++◌}
use Rattle.std.specs.List.{AllByRecursion}

-- %x(low)-(high)
abbrev pub between : ℕ → ℕ → ℕ → Bool
between low high c = nat_le low c && nat_le c high

-- DIGIT = %x30-39
abbrev pub is_digit : ℕ → Bool
is_digit c = between 48 57 c

-- *DIGIT
abbrev pub AreDigits : List ℕ → Type 0
AreDigits x = AllByRecursion (λ c. is_digit c ≡ true) x

-- 1*DIGIT
abbrev pub AreSomeDigits : List ℕ → Type 0
AreSomeDigits x = (c : ℕ) × (y : List ℕ) × (x ≡ c ∷ y) × (is_digit c ≡ true) × AreDigits y

-- int = zero / ( digit1-9 *DIGIT )
abbrev pub IsInt : List ℕ → Type 0
IsInt x = (x ≡ 48 ∷ []) ⊎ ((c : ℕ) × (y : List ℕ) × (x ≡ c ∷ y) × (between 49 57 c ≡ true) × AreDigits y)

-- [ frac ], frac = decimal-point 1*DIGIT
abbrev pub IsFrac : List ℕ → Type 0
IsFrac x = (x ≡ []) ⊎ ((y : List ℕ) × AreSomeDigits y × (x ≡ 46 ∷ y))

-- e = %x65 / %x45
abbrev pub IsE : ℕ → Type 0
IsE c = (c ≡ 101) ⊎ (c ≡ 69)

-- [ minus / plus ]
abbrev pub IsSign : List ℕ → Type 0
IsSign x = (x ≡ []) ⊎ ((x ≡ 43 ∷ []) ⊎ (x ≡ 45 ∷ []))

-- [ exp ], exp = e [ minus / plus ] 1*DIGIT
abbrev pub IsExp : List ℕ → Type 0
IsExp x = (x ≡ []) ⊎ ((e : ℕ) × (s : List ℕ) × (y : List ℕ) × IsE e × IsSign s × AreSomeDigits y × (x ≡ e ∷ (s ++ y)))

-- int [ frac ] [ exp ]
pub record IsUnsigned (x : List ℕ) : Type 0 where
  pub int : List ℕ
  pub frac : List ℕ
  pub exp : List ℕ
  pub text : x ≡ int ++ (frac ++ exp)
  pub int_is : IsInt int
  pub frac_is : IsFrac frac
  pub exp_is : IsExp exp

-- number = [ minus ] int [ frac ] [ exp ]
abbrev pub IsNumber : List ℕ → Type 0
IsNumber x = IsUnsigned x ⊎ ((y : List ℕ) × (x ≡ 45 ∷ y) × IsUnsigned y)
