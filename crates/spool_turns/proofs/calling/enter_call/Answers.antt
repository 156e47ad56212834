use Rattle.std.proofs.Common.{◌≤◌, ap, ◌∙◌, sym, subst, refl}
use Rattle.spool_turns.specs.Rules.{made_by, after_call, with_record, end_at, cursor_at}
use Rattle.spool_turns.specs.Passes.{IsCalling, locked_of, calling_of, pass_of, facts_in, caller_in}
use Rattle.spool_turns.proofs.calling.enter_call.Goals as goal

pub admit-requires-clause-tables : goal.admit-requires-clause-tables
admit-requires-clause-tables g c = c.requires.tables

pub admit-requires-clause-views : goal.admit-requires-clause-views
admit-requires-clause-views g c = c.requires.views

pub publish-requires-clause-tables : goal.publish-requires-clause-tables
publish-requires-clause-tables g c = (c.admit.ensures.tables.0 ∙ c.requires.tables.0, c.requires.tables.2)

pub publish-requires-clause-view : goal.publish-requires-clause-view
publish-requires-clause-view g c = subst IsCalling (sym c.admit.ensures.locked) refl

pub publish-requires-clause-words : goal.publish-requires-clause-words
publish-requires-clause-words g c =
    let a = c.args.alone.now in
    subst (λ x. ((facts_in x.0).end ≤ a.end_told) × ((facts_in x.0).cursor ≤ a.cursor_told)) (sym c.admit.ensures.locked) c.requires.words

pub add_record-requires-clause-tables : goal.add_record-requires-clause-tables
add_record-requires-clause-tables g c = (c.publish.ensures.table ∙ c.admit.ensures.tables.0 ∙ c.requires.tables.0, c.requires.tables.2)

pub add_record-requires-clause-view : goal.add_record-requires-clause-view
add_record-requires-clause-view g c = subst IsCalling (sym c.publish.ensures.locked) refl

pub returns-clause-run : goal.returns-clause-run
returns-clause-run g c = c.publish.ensures.run

pub returns-clause-kept : goal.returns-clause-kept
returns-clause-kept g c = c.publish.ensures.kept

pub returns-clause-told : goal.returns-clause-told
returns-clause-told g c = c.publish.ensures.told

pub returns-clause-ids : goal.returns-clause-ids
returns-clause-ids g c = c.publish.ensures.ids

pub returns-clause-tables : goal.returns-clause-tables
returns-clause-tables g c =
    let h = c.admit.ensures in
    let t = c.requires.tables in
    let e = c.add_record.ensures in
    (e.tables.0 ∙ c.publish.ensures.table ∙ h.tables.0, e.tables.1 ∙ c.publish.ensures.table ∙ h.tables.0 ∙ t.0 ∙ sym t.1)

pub returns-clause-knew : goal.returns-clause-knew
returns-clause-knew g c = c.admit.ensures.knew

pub returns-clause-locked : goal.returns-clause-locked
returns-clause-locked g c =
    let n = c.publish.new.alone in
    let wrote = c.publish.ensures.locked ∙ ap (λ x. calling_of (cursor_at n.cursor_told (end_at n.end_told (facts_in x.0))) (caller_in x.0)) c.admit.ensures.locked in
    c.add_record.ensures.locked ∙ ap (λ x. locked_of (with_record (facts_in x.0) (made_by (caller_in x.0).number g.C.Recorded.one))) wrote

pub returns-clause-pass : goal.returns-clause-pass
returns-clause-pass g c =
    let n = c.publish.new.alone in
    let wrote = c.publish.ensures.locked ∙ ap (λ x. calling_of (cursor_at n.cursor_told (end_at n.end_told (facts_in x.0))) (caller_in x.0)) c.admit.ensures.locked in
    c.add_record.ensures.pass ∙ ap (λ x. pass_of (after_call (facts_in x.0) (caller_in x.0) g.C.Recorded.one)) wrote
