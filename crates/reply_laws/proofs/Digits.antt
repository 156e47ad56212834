-- Texts of digits alone: each byte is of every class that digits are in, and there is no white space to trim.
use Rattle.std.proofs.Common.{◌≡◌, ℕ, ◌<◌, ◌≤◌, Bool, true, false, IsTrue, List, [], ◌∷◌, length, reverse, refl, ap, arith, ◌&&◌, ◌==◌, not}
use Rattle.std.specs.Prelude.{nat_le}
use Rattle.std.specs.Char.{is_ascii_digit}
use Rattle.std.specs.List.{list_all}
use Rattle.std.specs.Str.Parse.{AllDigits}
use Rattle.std.proofs.lemmas.Bool.{and_from, le-leb, ne_eqb, not_from_false, or_from, or_right}
use Rattle.std.proofs.lemmas.List.Elements.{All-cons, All-head, All-nil}
use Rattle.std.proofs.lemmas.List.Sums.{list_all-from_AllPass}
use Rattle.std.proofs.lemmas.Str.Parse.{digit_from_value}
use Rattle.httparse.specs.Grammar.{AllPass, is_ows, is_value_byte, skip_ows, trim_ows}
use Rattle.httparse.proofs.TrimLemmas.{AllPass-reverse, trim_ows_space}
use Rattle.http_edge.specs.Lengths.{is_number}

pub digits_pass : (test : ℕ → Bool) (each : (c : ℕ) → 48 ≤ c → c ≤ 57 → test c ≡ true) (ds : List ℕ) → AllDigits 10 ds → AllPass test ds
digits_pass test each [] all = All-nil (λ (b : ℕ). IsTrue (test b))
digits_pass test each (d ∷ ds) all = let k = digit_from_value d all.0 in All-cons (λ (b : ℕ). IsTrue (test b)) d ds (each d k.0 k.1) (digits_pass test each ds all.1)

pub is_digit : (c : ℕ) → 48 ≤ c → c ≤ 57 → is_ascii_digit c ≡ true
is_digit c low high = and_from (nat_le 48 c) (nat_le c 57) (le-leb 48 c low) (le-leb c 57 high)

pub in_value : (c : ℕ) → 48 ≤ c → c ≤ 57 → is_value_byte c ≡ true
in_value c low high =
    let visible : not (c == 127) ≡ true = not_from_false (c == 127) (ne_eqb c 127 (λ is. omega (arith, is, high))) in
    or_right (c == 9) (nat_le 32 c && not (c == 127)) (and_from (nat_le 32 c) (not (c == 127)) (le-leb 32 c (omega (arith, low))) visible)

pub number_is : (ds : List ℕ) → AllDigits 10 ds → 0 < length ds → is_number ds ≡ true
number_is ds all some =
    and_from (not (length ds == 0)) (list_all is_ascii_digit ds) (not_from_false (length ds == 0) (ne_eqb (length ds) 0 (λ is. omega (arith, is, some))))
    (list_all-from_AllPass is_ascii_digit ds (digits_pass is_ascii_digit is_digit ds all))

-- ---- white space

abbrev is_solid : ℕ → Bool
is_solid c = not (is_ows c)

digit_solid : (c : ℕ) → 48 ≤ c → c ≤ 57 → is_solid c ≡ true
digit_solid c low high = not_from_false (is_ows c) (or_from (c == 32) (c == 9) (ne_eqb c 32 (λ is. omega (arith, is, low))) (ne_eqb c 9 (λ is. omega (arith, is, low))))

solid_stays : (cs : List ℕ) → AllPass is_solid cs → skip_ows cs ≡ cs
solid_stays [] solid = refl
solid_stays (c ∷ cs) solid = by (is_ows c) refl (All-head (λ (b : ℕ). IsTrue (is_solid b)) c cs solid)
  where
    by : (b : Bool) → is_ows c ≡ b → IsTrue (not (is_ows c)) → skip_ows (c ∷ cs) ≡ c ∷ cs
    by true is solid = absurd (let never : not (is_ows c) ≡ false = ap not is in cc)
    by false is solid = rw is refl

pub trimmed : (ds : List ℕ) → AllDigits 10 ds → trim_ows (32 ∷ ds) ≡ ds
trimmed ds all =
    let pass = digits_pass is_solid digit_solid ds all in
    trim_ows_space ds (solid_stays ds pass) (solid_stays (reverse ds) (AllPass-reverse is_solid ds pass))
