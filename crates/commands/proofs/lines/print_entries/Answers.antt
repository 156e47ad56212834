use Rattle.std.proofs.Common.{◌+◌, ◌∙◌, refl, sym, subst, ap, arith}
use Rattle.std.specs.Io.KnownBytes.{Appends}
use Rattle.event_form.specs.Entry.{IsEntry}
use Rattle.spool_answers.specs.declared.numbered.Numbered.{Numbered}
use Rattle.notes.specs.declared.note.Note.TheVariants.{WriteFault, NoMemory}
use Rattle.bridge_parts.proofs.Writing.{stopped_as}
use Rattle.commands.proofs.Printing.{gathered_none, gathered_written, gathered_all, gathered_cut, gathered_only}
use Rattle.commands.proofs.Given.{each_given, printed_first, printed_whole, gathered_one}
use Rattle.forward_core.proofs.Free.{may_follow}
use Rattle.commands.proofs.lines.print_entries.Goals as goal

pub write_whole-requires : goal.write_whole-requires
write_whole-requires g c = record { permitted = may_follow (g.K.Sink.permits c.loop-one.output) (g.K.Sink.taken c.loop-one.output) c.deref.result.now (c.requires.prints c.loop-one.output) }

pub add_line-requires : goal.add_line-requires
add_line-requires g c =
    let one = c.one-item.result in
    let limits = c.requires.limits in
    subst IsEntry (ap (λ (x : Numbered). x.entry) (sym c.one-item.is)) (each_given limits.0 limits.1 c.args.entries.now limits.2 c.loop-one.one-index one c.loop-one-test.true).limits

pub loop-one-init : goal.loop-one-init
loop-one-init g c = record { writes = refl; gathered = gathered_none c.args.form _ _ c.new-lines.ensures.items }

pub returns-in_default-clause-printed : goal.returns-in_default-clause-printed
returns-in_default-clause-printed g c =
    let limits = c.requires.limits in
    printed_first c.args.form c.args.entries.now c.loop-one.one-index _ _ NoMemory limits.0 limits.1 limits.2 (λ is. absurd (cc)) (gathered_only c.args.form _ _ _ c.loop-one.lines.items c.loop-one.invariant.gathered)

pub returns-in_default-write_many-clause-printed : goal.returns-in_default-write_many-clause-printed
returns-in_default-write_many-clause-printed g c =
    let limits = c.requires.limits in
    let i = c.loop-one.one-index in
    let line = c.in-Ok.ensures in
    let gathered = gathered_one c.args.form c.args.entries.now i _ _ c.one-item.result c.loop-one.lines.items line.0 c.add_line.new.lines.items c.loop-one-test.true c.one-item.is line.1 line.2 c.loop-one.invariant.gathered in
    printed_first c.args.form c.args.entries.now (i + 1) _ _ WriteFault limits.0 limits.1 limits.2 (λ is. absurd (cc)) (gathered_cut c.args.form _ _ _ _ c.add_line.new.lines.items c.in_default-write_many.ensures.part gathered)

pub loop-one-preserved : goal.loop-one-preserved
loop-one-preserved g c =
    let i = c.loop-one.one-index in
    let line = c.in-Ok.ensures in
    let gathered = gathered_one c.args.form c.args.entries.now i _ _ c.one-item.result c.loop-one.lines.items line.0 c.add_line.new.lines.items c.loop-one-test.true c.one-item.is line.1 line.2 c.loop-one.invariant.gathered in
    record {
      writes = c.in-Ok-write_many.ensures.cause.quiet refl ∙ c.loop-one.invariant.writes;
      gathered = gathered_written c.args.form _ _ _ _ c.add_line.new.lines.items c.write_many.new.lines.items c.in-Ok-write_many.ensures.done gathered;
    }

pub returns-in-Ok-write_whole-clause-printed : goal.returns-in-Ok-write_whole-clause-printed
returns-in-Ok-write_whole-clause-printed g c =
    let mid = g.K.Sink.taken c.loop-one.output in
    let new = g.K.Sink.taken c.write_whole.new.sink in
    printed_whole c.args.form c.args.entries.now c.loop-one.one-index _ new (omega (arith, c.loop-one-test.false))
    (gathered_all c.args.form _ _ mid new c.loop-one.lines.items (subst (Appends mid new) c.deref.ensures.value c.in-Ok-write_whole.ensures.whole) c.loop-one.invariant.gathered)

pub returns-clause-printed : goal.returns-clause-printed
returns-clause-printed g c =
    let limits = c.requires.limits in
    printed_first c.args.form c.args.entries.now c.loop-one.one-index _ _ WriteFault limits.0 limits.1 limits.2 (λ is. absurd (cc))
    (gathered_cut c.args.form _ _ _ _ c.loop-one.lines.items
    (stopped_as c.loop-one.lines.items c.deref.result.now c.in-Err.field-0.sent _ _ c.deref.ensures.value c.in-Err.ensures.part.0
    c.in-Err.ensures.part.1) c.loop-one.invariant.gathered)
