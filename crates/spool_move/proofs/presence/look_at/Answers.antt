use Rattle.std.proofs.Common.{◌∙◌, inl, sym, subst, arith}
use Rattle.spool_move.specs.Reading.{as_entry, IsOfLook, IsOwn}
use Rattle.spool_move.specs.declared.presence.Own.{Own}
use Rattle.spool_move.proofs.Present.{other_tag, index_below, index_gone, index_present, look_unread, strange_here}
use Rattle.spool_move.proofs.Results.{match_err}
use Rattle.spool_move.proofs.Standing.{end_is, inserted}
use Rattle.spool_move.proofs.presence.look_at.Goals as goal

pub returns-then-entry-connection-clause-looked : goal.returns-then-entry-connection-clause-looked
returns-then-entry-connection-clause-looked g c = λ m before tells held was.
    other_tag c.args.tag m before (as_entry c.args.one.now) c.args.present.now was (λ is. c.if-entry-connection.true (is ∙ sym c.connection.ensures))

pub returns-then-end-entry-clause-looked : goal.returns-then-end-entry-clause-looked
returns-then-end-entry-clause-looked g c = λ m before tells held was.
    strange_here c.args.tag m before (as_entry c.args.one.now) c.args.present.now was
    (c.if-entry-connection.false ∙ c.connection.ensures, inl (omega (arith, c.if-end-entry.true, c.end.ensures.end, end_is m c.args.source.now.memory held.knows held.sound)))

pub returns-then-entry-cursor-clause-looked : goal.returns-then-entry-cursor-clause-looked
returns-then-entry-cursor-clause-looked g c = λ m before tells held was.
    index_below c.args.tag m before (as_entry c.args.one.now) c.args.present.now held.sound was (omega (arith, c.if-entry-cursor.true, c.cursor.ensures, held.knows.cursor))

pub returns-in-NotLeft-clause-looked : goal.returns-in-NotLeft-clause-looked
returns-in-NotLeft-clause-looked g c = λ m before tells held was.
    let found = c.in_ok-compare.ensures.found m tells held in
    let gone = subst (λ (own : Own). IsOwn m c.args.one.now.entry own) c.in-NotLeft.is found in
    index_gone c.args.tag m before (as_entry c.args.one.now) c.args.present.now was
    (omega (arith, c.if-end-entry.false, c.end.ensures.end, end_is m c.args.source.now.memory held.knows held.sound)) gone

pub returns-in-Ok-clause-looked : goal.returns-in-Ok-clause-looked
returns-in-Ok-clause-looked g c = λ m before tells held was.
    let found = c.in_ok-compare.ensures.found m tells held in
    let own = subst (λ (o : Own). IsOwn m c.args.one.now.entry o) c.in-Same.is found in
    index_present c.args.tag m before (as_entry c.args.one.now) c.args.present.now c.insert.new.self was
    (c.if-entry-connection.false ∙ c.connection.ensures)
    (omega (arith, c.if-end-entry.false, c.end.ensures.end, end_is m c.args.source.now.memory held.knows held.sound)) own.0 own.1
    (λ n. inserted c.args.present.now c.insert.new.self c.args.one.now.entry.index n c.in-Ok.ensures.updates)

pub returns-in_err-compare-clause-known : goal.returns-in_err-compare-clause-known
returns-in_err-compare-clause-known g c =
    match_err c.from_residual.result c.in_err-compare.field-0.0 (λ _. Unit {0}) (λ fault. IsOfLook fault) c.from_residual.ensures.1 (look_unread c.in_err-compare.field-0.0 c.in_err-compare.ensures.unread)
