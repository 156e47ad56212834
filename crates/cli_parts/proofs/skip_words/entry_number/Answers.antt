use Rattle.std.proofs.Common.{◌≡◌, ◌≢◌, ℕ, ◌^◌, ◌<◌, List, get_or, subst, sym, arith}
use Rattle.std.specs.Str.Parse.{without_leading_plus, IsNumeral, digits_value}
use Rattle.std.proofs.lemmas.Str.Parse.{without_leading_plus_none}
use Rattle.cli_parts.proofs.skip_words.entry_number.Goals as goal

pub returns-in-Ok : goal.returns-in-Ok
returns-in-Ok c =
    let plain : get_or c.args.word.now 0 0 ≢ 43 = λ plus. let yes = c.has_plus.ensures.1 plus in let no = c.if-has_plus.false in absurd (cc (yes, no)) in
    let same : without_leading_plus c.args.word.now ≡ c.args.word.now = without_leading_plus_none c.args.word.now plain in
    let read = subst (λ (w : List ℕ). (IsNumeral 10 w × (digits_value 10 w < 2 ^ 64)) × (c.in-Ok.number ≡ digits_value 10 w)) same c.in-Ok.ensures.value in
    record { digits = read.0.0; value = read.1; below = omega (arith, read.0.1, read.1) }

pub returns-in-Err : goal.returns-in-Err
returns-in-Err c =
    let plain : get_or c.args.word.now 0 0 ≢ 43 = λ plus. let yes = c.has_plus.ensures.1 plus in let no = c.if-has_plus.false in absurd (cc (yes, no)) in
    let same : without_leading_plus c.args.word.now ≡ c.args.word.now = without_leading_plus_none c.args.word.now plain in
    λ number is. c.in-Err.ensures.value (subst (λ (w : List ℕ). IsNumeral 10 w × (digits_value 10 w < 2 ^ 64)) (sym same)
    (is.digits, omega (arith, is.below, is.value)))
