use Rattle.std.proofs.Common.{◌∙◌, subst, arith}
use Rattle.desk_access.specs.Call.{pends, listed}
use Rattle.desk_seats.specs.Passes.{Known, Calls}
use Rattle.spool_turns.specs.Passes.{known_of, pass_in}
use Rattle.spool_turns.proofs.turn.Turn.pending.Goals as goal

pub pending-answer-requires : goal.pending-answer-requires
pending-answer-requires g c = omega (arith, c.requires.number, c.look.ensures.end)

pub enter-requires-clause-seats : goal.enter-requires-clause-seats
enter-requires-clause-seats g c = (c.pass.invariant.0, c.look.new.self.twin_table)

pub enter-requires-clause-made : goal.enter-requires-clause-made
enter-requires-clause-made g c = record { before = c.look.new.self.alone; twin_is = c.look.new.self.twin_is; of_spool_is = tt; makes = c.pending-answer.ensures.makes; same_ids = c.pending-answer.ensures.ids }

pub enter-requires-clause-pass : goal.enter-requires-clause-pass
enter-requires-clause-pass g c = c.pass.invariant.1

pub enter-requires-clause-may : goal.enter-requires-clause-may
enter-requires-clause-may g c = tt

pub invariant_of-pass : goal.invariant_of-pass
invariant_of-pass g c =
    let e = c.enter.ensures in
    (e.seats.0, e.pass.0, e.pass.1, e.pass.2 ∙ c.pass.invariant.3, c.pass.invariant.4, e.pass.3 ∙ c.pass.invariant.5)

pub returns-clause-call : goal.returns-clause-call
returns-clause-call g c = subst (λ (k : Known). Calls g.J.Naming.start g.J.Naming.run g.J.Naming.seats k (pends c.args.from c.args.most (listed c.pending-answer.result)) (known_of (pass_in c.enter.new.seat.me.0))) (c.pass.view_is ∙ c.look.ensures.pass) c.enter.ensures.call

pub returns-clause-real : goal.returns-clause-real
returns-clause-real g c = c.enter.ensures.real
