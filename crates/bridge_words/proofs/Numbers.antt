-- Numbers of one to ten digits.
use Rattle.std.proofs.Common.{◌≡◌, ◌∙◌, ℕ, ◌^◌, ◌<◌, ◌≤◌, [], ◌∷◌, length, get_or, true≢false, refl, sym, ap, subst, arith, lt-ltb, ltb-true}
use Rattle.std.specs.Prelude.{Bool, true, false, cond, nat_lt, nat_le, ◌&&◌, if◌then◌else◌, Option, None, Some, option_and_then}
use Rattle.std.specs.List.{list_all}
use Rattle.std.specs.Char.{digit_value}
use Rattle.std.specs.Str.Parse.{AllDigits, IsNumeral, digits_value}
use Rattle.std.proofs.lemmas.Bool.{and_parts}
use Rattle.std.proofs.lemmas.Int.Digits.{digits_value-lt}
use Rattle.std.proofs.Math.Nat.{pow-le-pow_right}
use Rattle.clap.specs.Walk.{Text}
use Rattle.bridge_words.specs.Values.{is_number, number, number_within}
use borrow.Author.Tests.{leb-true, le-leb}

digits_pass : (text : Text) → AllDigits 10 text → list_all (λ d. nat_lt (digit_value d) 10) text ≡ true
digits_pass [] h = refl
digits_pass (d ∷ ds) h = rw (lt-ltb (digit_value d) 10 h.0) (digits_pass ds h.1)

digits_from : (text : Text) → list_all (λ d. nat_lt (digit_value d) 10) text ≡ true → AllDigits 10 text
digits_from [] e = tt
digits_from (d ∷ ds) e = let parts = and_parts _ _ e in (ltb-true _ _ parts.0, digits_from ds parts.1)

is_number-true : (text : Text) → IsNumeral 10 text → length text ≤ 10 → is_number text ≡ true
is_number-true text h few = rw (lt-ltb 0 (length text) h.0, le-leb (length text) 10 few, digits_pass text h.1) refl

is_number-parts : (text : Text) → is_number text ≡ true → IsNumeral 10 text × (length text ≤ 10)
is_number-parts text e =
    let outer = and_parts _ _ e in
    let inner = and_parts _ _ outer.1 in
    ((ltb-true _ _ outer.0, digits_from text inner.1), leb-true _ _ inner.0)

pub is_numeral : (text : Text) (n : ℕ) → IsNumeral 10 text → length text ≤ 10 → n ≡ digits_value 10 text → Some n ≡ number text
is_numeral text n h few is = by (is_number text) refl is where
  by : (b : Bool) → is_number text ≡ b → n ≡ digits_value 10 text → Some n ≡ cond b (Some (digits_value 10 text)) None
  by true e is = ap Some is
  by false e is = absurd (true≢false (sym (is_number-true text h few) ∙ e))

pub no_numeral : (text : Text) → (IsNumeral 10 text → length text ≤ 10 → ⊥) → None ≡ number text
no_numeral text never = by (is_number text) refl where
  by : (b : Bool) → is_number text ≡ b → None ≡ cond b (Some (digits_value 10 text)) None
  by true e = let parts = is_number-parts text e in absurd (never parts.0 parts.1)
  by false e = refl

-- a plus is no digit
pub no_plus : (text : Text) → get_or text 0 0 ≡ 43 → IsNumeral 10 text → ⊥
no_plus [] is h = omega (arith, h.0)
no_plus (c ∷ cs) is h = let digit : digit_value 43 < 10 = subst (λ (x : ℕ). digit_value x < 10) is h.1.0 in omega arith

-- the value of ten digits or fewer fits
pub fits : (text : Text) → IsNumeral 10 text → length text ≤ 10 → digits_value 10 text < 2 ^ 64
fits text h few =
    let below : digits_value 10 text < 10 ^ length text = digits_value-lt 10 text h.1 in
    let most : 10 ^ length text ≤ 10 ^ 10 = pow-le-pow_right {n = 10} (omega arith) few in
    omega arith

-- a number in a range is no more than the most
pub within : (least most : ℕ) (text : Text) (n : ℕ) → number_within least most text ≡ Some n → n ≤ most
within least most text n is = by (number text) is where
  chosen : (m : ℕ) (b : Bool) → (nat_le least m && nat_le m most) ≡ b → cond b (Some m) None ≡ Some n → n ≤ most
  chosen m true e at = let same : m ≡ n = cc in subst (λ (k : ℕ). k ≤ most) same (leb-true _ _ (and_parts _ _ e).1)
  chosen m false e at = absurd (cc)

  by : (o : Option ℕ) → option_and_then (λ m. if nat_le least m && nat_le m most then Some m else None) o ≡ Some n → n ≤ most
  by None at = absurd (cc)
  by (Some m) at = chosen m (nat_le least m && nat_le m most) refl at

-- and no less than the least
pub from_least : (least most : ℕ) (text : Text) (n : ℕ) → number_within least most text ≡ Some n → least ≤ n
from_least least most text n is = by (number text) is where
  chosen : (m : ℕ) (b : Bool) → (nat_le least m && nat_le m most) ≡ b → cond b (Some m) None ≡ Some n → least ≤ n
  chosen m true e at = let same : m ≡ n = cc in subst (λ (k : ℕ). least ≤ k) same (leb-true _ _ (and_parts _ _ e).0)
  chosen m false e at = absurd (cc)

  by : (o : Option ℕ) → option_and_then (λ m. if nat_le least m && nat_le m most then Some m else None) o ≡ Some n → least ≤ n
  by None at = absurd (cc)
  by (Some m) at = chosen m (nat_le least m && nat_le m most) refl at
