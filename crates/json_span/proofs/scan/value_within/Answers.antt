use Rattle.std.specs.Prelude.{Ok, Err}
use Rattle.json_span.specs.Spans.{IsFirst}
use Rattle.json_span.specs.declared.span.JsonFault.TheVariants.{Cut, NotJson, TooDeep}
use Rattle.json_span.proofs.Exact.{exact}
use Rattle.json_span.proofs.NumberLaws.{string_there}
use Rattle.json_span.proofs.Values.{first_within}
use Rattle.json_span.proofs.scan.value_within.Goals as goal

pub returns-in-Some : goal.returns-in-Some
returns-in-Some c =
    let n = c.args.levels in
    let b = c.args.bytes.now in
    let f : IsFirst n b c.args.at (record { start = c.args.at; end = c.in-Some.end }) = string_there n b c.args.at c.in-Some.end c.in-Some.ensures in
    let e = exact n b c.args.at (Ok (record { start = c.args.at; end = c.in-Some.end })) in
    record { ok = λ x. e (Ok x) f; within = first_within n b c.args.at (record { start = c.args.at; end = c.in-Some.end }) f; cut = e (Err Cut) f; not_json = λ p. e (Err (NotJson p)) f; too_deep = λ p. e (Err (TooDeep p)) f }
