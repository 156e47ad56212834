use Rattle.std.proofs.Common.{rules, ◌≡◌, arith}
use Rattle.std.specs.Prelude.{IfOk, string_bytes}
use Rattle.load_run.specs.Events.{load_text}
use Rattle.load_run.proofs.Shorts.{limit_of}
use Rattle.load_run.proofs.generator.load_text.Goals as goal

pub returns-clause-short : goal.returns-clause-short
returns-clause-short c =
    let text : IfOk c.format.result (λ text. string_bytes text ≡ load_text c.args.place c.args.x) = search rules in
    limit_of string_bytes c.format.result c.args.place c.args.x (omega arith) (omega arith) text
