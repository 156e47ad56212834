use Rattle.std.proofs.Common.{◌∙◌, subst}
use Rattle.desk_access.specs.Call.{counts}
use Rattle.desk_seats.specs.Passes.{Known, Calls}
use Rattle.spool_turns.specs.Passes.{known_of, pass_in}
use Rattle.spool_turns.proofs.turn.Turn.known_count.Goals as goal

pub enter-requires-clause-seats : goal.enter-requires-clause-seats
enter-requires-clause-seats g c = (c.pass.invariant.0, c.args.self.now.twin_table)

pub enter-requires-clause-made : goal.enter-requires-clause-made
enter-requires-clause-made g c = record { before = c.args.self.now.alone; twin_is = c.args.self.now.twin_is; of_spool_is = tt; makes = c.known_count-answer.ensures.makes; same_ids = c.known_count-answer.ensures.ids }

pub enter-requires-clause-pass : goal.enter-requires-clause-pass
enter-requires-clause-pass g c = c.pass.invariant.1

pub enter-requires-clause-may : goal.enter-requires-clause-may
enter-requires-clause-may g c = tt

pub invariant_of-pass : goal.invariant_of-pass
invariant_of-pass g c =
    let e = c.enter.ensures in
    (e.seats.0, e.pass.0, e.pass.1, e.pass.2 ∙ c.pass.invariant.3, c.pass.invariant.4, e.pass.3 ∙ c.pass.invariant.5)

pub returns-clause-call : goal.returns-clause-call
returns-clause-call g c = subst (λ (k : Known). Calls g.J.Naming.start g.J.Naming.run g.J.Naming.seats k (counts c.known_count-answer.result) (known_of (pass_in c.enter.new.seat.me.0))) (c.pass.view_is) c.enter.ensures.call

pub returns-clause-real : goal.returns-clause-real
returns-clause-real g c = c.enter.ensures.real
