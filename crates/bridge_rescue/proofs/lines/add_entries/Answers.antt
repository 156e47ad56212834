use Rattle.std.proofs.Common.{◌+◌, ◌∙◌, refl, sym, subst, arith}
use Rattle.event_form.specs.Entry.{IsEntry}
use Rattle.notes.specs.declared.note.Note.TheVariants.{WriteFault, NoMemory}
use Rattle.bridge_rescue.proofs.Gathering.{gathered_rest, gathered_one, gathered_written, gathered_cut, gathered_whole, prints_front}
use Rattle.bridge_rescue.proofs.lines.add_entries.Goals as goal

pub add_line-requires : goal.add_line-requires
add_line-requires g c =
    let one = c.entry-item.result in
    (subst IsEntry (sym c.entry-item.is) (c.requires.limits c.loop-entry.entry-index one c.loop-entry-test.true)).event

pub loop-entry-init : goal.loop-entry-init
loop-entry-init g c = record { writes = refl; gathered = λ before start held. gathered_rest before start _ _ held }

pub returns-in_default-clause-gathered : goal.returns-in_default-clause-gathered
returns-in_default-clause-gathered g c = λ before start held.
    prints_front before c.args.entries.now c.loop-entry.entry-index start _ NoMemory (λ is. absurd (cc)) (c.loop-entry.invariant.gathered before start held).printed

pub returns-in_default-write_many-clause-gathered : goal.returns-in_default-write_many-clause-gathered
returns-in_default-write_many-clause-gathered g c = λ before start held.
    let i = c.loop-entry.entry-index in
    let line = c.in-Ok.ensures in
    let gathered = gathered_one before c.args.entries.now i start _ c.entry-item.result c.loop-entry.lines.items line.0 c.add_line.new.lines.items c.loop-entry-test.true c.entry-item.is line.1 line.2
    (c.loop-entry.invariant.gathered before start held) in
    prints_front before c.args.entries.now (i + 1) start _ WriteFault (λ is. absurd (cc))
    (gathered_cut _ start _ _ c.add_line.new.lines.items c.in_default-write_many.ensures.part gathered)

pub loop-entry-preserved : goal.loop-entry-preserved
loop-entry-preserved g c =
    let i = c.loop-entry.entry-index in
    let line = c.in-Ok.ensures in
    record {
      writes = c.in-Ok-write_many.ensures.cause.quiet refl ∙ c.loop-entry.invariant.writes;
      gathered = λ before start held.
          gathered_written _ start _ _ c.add_line.new.lines.items c.write_many.new.lines.items c.in-Ok-write_many.ensures.done
          (gathered_one before c.args.entries.now i start _ c.entry-item.result c.loop-entry.lines.items line.0 c.add_line.new.lines.items c.loop-entry-test.true c.entry-item.is line.1 line.2
          (c.loop-entry.invariant.gathered before start held));
    }

pub returns-clause-gathered : goal.returns-clause-gathered
returns-clause-gathered g c = λ before start held.
    gathered_whole before c.args.entries.now c.loop-entry.entry-index start _ _ (omega (arith, c.loop-entry-test.false)) (c.loop-entry.invariant.gathered before start held)
