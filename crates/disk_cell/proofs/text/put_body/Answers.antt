use Rattle.std.proofs.Common.{◌∙◌, ◌++◌, ap, length, take, arith}
use Rattle.spool_state.specs.Cells.{stretches_text}
use Rattle.disk_cell.proofs.Texts.{take-put, body_is}
use Rattle.disk_cell.proofs.text.put_body.Goals as goal

pub returns-clause-text : goal.returns-clause-text
returns-clause-text c =
    let known = c.args.known.now in
    let head = ap (take 31) c.overwrite.ensures ∙ take-put 0 31 c.head_of.result c.args.body.now (omega arith) (omega (arith, ap length c.head_of.ensures)) ∙ c.head_of.ensures in
    c.put_stretches.ensures ∙ ap (λ l. l ++ stretches_text known) head ∙ body_is c.args.ordinal c.args.run c.args.cursor known
