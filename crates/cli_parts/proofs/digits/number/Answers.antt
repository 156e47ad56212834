use Rattle.std.proofs.Common.{◌≡◌, ◌≢◌, ℕ, ◌^◌, ◌<◌, List, get_or, subst, sym, arith}
use Rattle.std.specs.Str.Parse.{without_leading_plus, IsNumeral, digits_value}
use Rattle.std.proofs.lemmas.Str.Parse.{without_leading_plus_none}
use Rattle.bridge_words.proofs.Numbers.{is_numeral, no_numeral, fits}
use Rattle.cli_parts.proofs.digits.number.Goals as goal

pub returns-in-Ok : goal.returns-in-Ok
returns-in-Ok c =
    let plain : get_or c.args.word.now 0 0 ≢ 43 = λ plus. let yes = c.has_plus.ensures.1 plus in let no = c.if-has_plus.false in absurd (cc (yes, no)) in
    let same : without_leading_plus c.args.word.now ≡ c.args.word.now = without_leading_plus_none c.args.word.now plain in
    let read = subst (λ (w : List ℕ). (IsNumeral 10 w × (digits_value 10 w < 2 ^ 64)) × (c.in-Ok.number ≡ digits_value 10 w)) same c.in-Ok.ensures.value in
    is_numeral c.args.word.now c.in-Ok.number read.0.0 (omega arith) read.1

pub returns-in-Err : goal.returns-in-Err
returns-in-Err c =
    let plain : get_or c.args.word.now 0 0 ≢ 43 = λ plus. let yes = c.has_plus.ensures.1 plus in let no = c.if-has_plus.false in absurd (cc (yes, no)) in
    let same : without_leading_plus c.args.word.now ≡ c.args.word.now = without_leading_plus_none c.args.word.now plain in
    no_numeral c.args.word.now (λ numeral few. c.in-Err.ensures.value (subst (λ (w : List ℕ). IsNumeral 10 w × (digits_value 10 w < 2 ^ 64)) (sym same) (numeral, fits c.args.word.now numeral few)))
