use Rattle.std.proofs.Common.{◌≡◌, ◌≤◌, sym, ap, ◌∙◌, subst}
use Rattle.std.specs.Prelude.{None}
use Rattle.desk_seats.specs.Passes.{Known}
use Rattle.spool_turns.specs.Passes.{IsPass, Sound, known_of, pass_in}
use Rattle.spool_turns.proofs.turn.Turn.look.Goals as goal

pub look-requires-clause-seats : goal.look-requires-clause-seats
look-requires-clause-seats g c = (c.pass.invariant.0, c.args.self.now.twin_table)

pub look-requires-clause-twin : goal.look-requires-clause-twin
look-requires-clause-twin g c = c.args.self.now.twin_is

pub look-requires-clause-pass : goal.look-requires-clause-pass
look-requires-clause-pass g c = c.pass.invariant.1

pub invariant_of-pass : goal.invariant_of-pass
invariant_of-pass g c =
    let e = c.look.ensures in
    let i = c.pass.invariant in
    let rest = subst (λ m. IsPass m × Sound g.J.Naming.start (pass_in m.0) × ((pass_in m.0).number ≡ c.pass.inside.number) × ((pass_in m.0).out ≡ None)) (sym e.pass) (i.1, i.2, i.3, i.5) in
    (e.seats.0, rest.0, rest.1, rest.2, i.4, rest.3)

pub returns-clause-pass : goal.returns-clause-pass
returns-clause-pass g c = ap (λ m. known_of (pass_in m.0)) c.look.ensures.pass ∙ c.pass.view_is

pub returns-clause-end : goal.returns-clause-end
returns-clause-end g c = subst (λ (k : Known). k.end_known ≤ c.args.self.now.alone.end_told) c.pass.view_is c.look.ensures.end
