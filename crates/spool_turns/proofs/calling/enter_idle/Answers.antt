use Rattle.std.proofs.Common.{ap, ◌∙◌, sym, subst, refl}
use Rattle.spool_turns.specs.Rules.{made_by, after_call, with_record}
use Rattle.spool_turns.specs.Passes.{IsCalling, locked_of, pass_of, facts_in, caller_in}
use Rattle.spool_turns.proofs.calling.enter_idle.Goals as goal

pub admit-requires-clause-tables : goal.admit-requires-clause-tables
admit-requires-clause-tables g c = c.requires.tables

pub admit-requires-clause-views : goal.admit-requires-clause-views
admit-requires-clause-views g c = c.requires.views

pub add_record-requires-clause-tables : goal.add_record-requires-clause-tables
add_record-requires-clause-tables g c = (c.admit.ensures.tables.0 ∙ c.requires.tables.0, c.requires.tables.2)

pub add_record-requires-clause-view : goal.add_record-requires-clause-view
add_record-requires-clause-view g c = subst IsCalling (sym c.admit.ensures.locked) refl

pub returns-clause-tables : goal.returns-clause-tables
returns-clause-tables g c =
    let h = c.admit.ensures in
    let t = c.requires.tables in
    let e = c.add_record.ensures in
    (e.tables.0 ∙ h.tables.0, e.tables.1 ∙ h.tables.0 ∙ t.0 ∙ sym t.1)

pub returns-clause-knew : goal.returns-clause-knew
returns-clause-knew g c = c.admit.ensures.knew

pub returns-clause-locked : goal.returns-clause-locked
returns-clause-locked g c =
    c.add_record.ensures.locked ∙ ap (λ x. locked_of (with_record (facts_in x.0) (made_by (caller_in x.0).number g.C.Recorded.one))) c.admit.ensures.locked

pub returns-clause-pass : goal.returns-clause-pass
returns-clause-pass g c =
    c.add_record.ensures.pass ∙ ap (λ x. pass_of (after_call (facts_in x.0) (caller_in x.0) g.C.Recorded.one)) c.admit.ensures.locked
