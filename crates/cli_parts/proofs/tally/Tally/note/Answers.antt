use Rattle.std.proofs.Common.{◌≡◌, ◌<◌, ◌||◌, get_or, false, arith, subst}
use Rattle.cli_parts.proofs.Counted.{ends_between}
use Rattle.cli_parts.proofs.tally.Tally.note.Goals as goal

pub returns-clause-each : goal.returns-clause-each
returns-clause-each c = λ part less.
    let within : part < c.len.result = grind (arith, c.len.ensures) in
    let ends = ends_between c.args.from c.args.to c.len.result c.min-past.result c.loop-part.part part within c.min-past.ensures c.loop-part-test.false
    c.loop-part.auto.part-end c.loop-part.invariant.2 in
    subst (λ b. get_or c.loop-part.self.parts.items part false ≡ (get_or c.args.self.now.parts.items part false || b)) ends (c.loop-part.invariant.1 part less)
