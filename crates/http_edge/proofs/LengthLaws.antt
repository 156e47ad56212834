-- What the fields of a head say of a body's length.
use Rattle.std.proofs.Common.{◌≡◌, ℕ, ◌+◌, ◌-◌, ◌*◌, ◌<◌, true, List, length, take, get_or, arith}
use Rattle.std.specs.Prelude.{min}
use Rattle.std.specs.List.{list_all}
use Rattle.std.specs.Char.{is_ascii_digit}
use Rattle.std.specs.Str.Parse.{digits_value}
use Rattle.std.specs.Int.{IsInRange}
use Rattle.std.proofs.lemmas.List.Sums.{AllPass-from_list_all}
use Rattle.std.proofs.lemmas.Int.Digits.{digits_value_more}
use Rattle.std.proofs.lemmas.Str.{digit_value_digit}
use Rattle.std.proofs.lemmas.Bool.Decides.{nat_tests}

digit_range : (c : ℕ) → is_ascii_digit c ≡ true → IsInRange 48 57 c
digit_range c h = grind (arith, nat_tests)

pub digit_at : (bs : List ℕ) (i : ℕ) → i < length bs → list_all is_ascii_digit bs ≡ true → IsInRange 48 57 (get_or bs i 0)
digit_at bs i l all = digit_range (get_or bs i 0) ((AllPass-from_list_all is_ascii_digit bs all) i 0 l)

-- another digit of a number that is capped
pub capped_more : (bs : List ℕ) (i v r : ℕ) → i < length bs → list_all is_ascii_digit bs ≡ true → v ≡ min 1048577 (digits_value 10 (take i bs)) → r ≡ min (v * 10 + (get_or bs i 0 - 48)) 1048577 → r ≡ min 1048577 (digits_value 10 (take (i + 1) bs))
capped_more bs i v r l all e f =
    let d = digit_value_digit (get_or bs i 0) (digit_at bs i l all) in
    omega (arith, digits_value_more 10 bs i l, d, e, f)
