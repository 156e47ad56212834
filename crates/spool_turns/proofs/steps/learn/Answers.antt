use Rattle.std.proofs.Common.{[], ap, ◌∙◌, sym, arith}
use Rattle.spool_turns.specs.Rules.{released, caller_of}
use Rattle.spool_turns.proofs.KeepsRule.{releases_as}
use Rattle.spool_turns.proofs.steps.learn.Goals as goal

pub split_seat-requires : goal.split_seat-requires
split_seat-requires c =
    let a = c.admit.ensures in
    (a.tables.0 ∙ c.requires.tables.0, omega (arith, c.requires.tables.2), releases_as _ _ _ _ (ap (λ m. m.0) a.locked))

pub returns-clause-same : goal.returns-clause-same
returns-clause-same c =
    let a = c.admit.ensures in
    (c.split_seat.ensures.0 ∙ a.tables.0, c.split_seat.ensures.2 ∙ ap (λ m. (released m.0, m.1)) a.locked ∙ sym c.requires.views.0)

pub returns-clause-pass : goal.returns-clause-pass
returns-clause-pass c =
    let a = c.admit.ensures in
    let t = c.requires.tables in
    (c.split_seat.ensures.3 ∙ a.tables.0 ∙ t.0 ∙ sym t.1, c.split_seat.ensures.4 ∙ ap (λ m. (caller_of m.0, [])) a.locked ∙ sym c.requires.views.1)

pub returns-clause-knew : goal.returns-clause-knew
returns-clause-knew c = c.admit.ensures.knew
