use Rattle.std.proofs.Common.{◌≡◌, ◌∙◌, true, sym, refl, arith}
use Rattle.std.specs.Str.Parse.{digits_value}
use Rattle.http_edge.specs.Lengths.{is_number}
use Rattle.http_edge.proofs.length.length_size.Goals as goal

pub returns-then-length-gt-MOST_BODY : goal.returns-then-length-gt-MOST_BODY
returns-then-length-gt-MOST_BODY c =
    let e : is_number c.args.value.now ≡ true = sym c.is_number.ensures ∙ c.if-not-is_number.false in
    let long = c.if-length-gt-MOST_BODY.true in
    (digits_value 10 c.args.value.now, rw e refl, omega (arith, c.capped_value-length.ensures, long))
