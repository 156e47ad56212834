use Rattle.std.proofs.Common.{Some, arith}
use Rattle.std.proofs.lemmas.Str.Pattern.{split_parts}
use Rattle.cli_parts.proofs.Options.{valued}
use Rattle.cli_parts.proofs.piece.piece_of.Goals as goal

-- an option without a value, with one
pub returns-in-Some-flag_of : goal.returns-in-Some-flag_of
returns-in-Some-flag_of c =
    let parts = split_parts 61 c.args.word.now (Some (c.in-Some.name, c.in-Some.value)) c.in-Some.ensures.cases (omega arith) in
    valued c.in-Some-flag_of.flag c.args.word.now c.in-Some.name.now c.in-Some.value.now parts.0 c.in-Some-flag_of.ensures
