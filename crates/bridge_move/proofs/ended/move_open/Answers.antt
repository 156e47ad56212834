use Rattle.std.proofs.Common.{◌∙◌, refl, sym, subst, ℕ}
use Rattle.std.specs.Prelude.{Ok, Err}
use Rattle.notes.specs.declared.note.Note.{Note}
use Rattle.bridge_words.specs.Lines.{move_line}
use Rattle.bridge_parts.specs.Pending.{pending_in}
use Rattle.bridge_parts.specs.Run.{output_run}
use Rattle.bridge_parts.specs.Written.{IsPrinted}
use Rattle.bridge_move.proofs.Ending.{ends_open}
use Rattle.bridge_move.proofs.ended.move_open.Goals as goal

pub returns-in-Ok-clause-ended : goal.returns-in-Ok-clause-ended
returns-in-Ok-clause-ended g c =
    let source = c.move_pending.new.source in
    let target = c.move_pending.new.target in
    let output = output_run g.K.Sink.taken g.K.Sink.write_faults c.args.output.now c.print_moved-note.new.output in
    ends_open g.D.Disk g.E.Disk c.args.tag c.args.source source c.args.target target (Ok c.in-Ok.moved) c.of.result output
    c.requires.sure c.requires.sure_target (c.of.ensures.source ∙ c.into_disk.ensures) (c.of.ensures.target ∙ c.into_disk-in-Ok.ensures)
    c.in-Ok.ensures.told c.in-Ok.ensures.moves
    (subst (λ (n : Note). IsPrinted n (move_line c.in-Ok.moved (pending_in source.memory)) output.taken output.taken_after) (sym c.of.ensures.note)
    (subst (λ (n : ℕ). IsPrinted c.print_moved-note.result (move_line c.in-Ok.moved n) output.taken output.taken_after) c.pending_count.ensures
    c.print_moved-note.ensures.line))

pub returns-in-Err-clause-ended : goal.returns-in-Err-clause-ended
returns-in-Err-clause-ended g c =
    let source = c.move_pending.new.source in
    let target = c.move_pending.new.target in
    ends_open g.D.Disk g.E.Disk c.args.tag c.args.source source c.args.target target (Err c.in-Err.fault) c.of-in-Err.result
    (output_run g.K.Sink.taken g.K.Sink.write_faults c.args.output.now c.args.output.now)
    c.requires.sure c.requires.sure_target (c.of-in-Err.ensures.source ∙ c.into_disk-in-Err.ensures)
    (c.of-in-Err.ensures.target ∙ c.into_disk-in-Err-2.ensures) c.in-Err.ensures.told c.in-Err.ensures.moves
    (c.of-in-Err.ensures.note ∙ c.move_note.ensures, record { same = refl; taken = refl; faults = refl })
