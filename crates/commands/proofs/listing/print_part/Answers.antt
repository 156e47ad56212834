use Rattle.std.proofs.Common.{◌+◌, List, [], sym, ap, subst, arith}
use Rattle.std.specs.Prelude.{Err}
use Rattle.edge_disk.proofs.Calls.{calls_as}
use Rattle.spool_state.specs.Left.{left_from}
use Rattle.spool_answers.specs.Pend.{given_entries}
use Rattle.spool_answers.specs.declared.numbered.Numbered.{Numbered}
use Rattle.conn_serve.proofs.Faults.{counts_as}
use Rattle.notes.specs.declared.note.Note.{Note}
use Rattle.notes.specs.declared.note.Note.TheVariants.{Fine}
use Rattle.commands.specs.Listed.{ArePrinted}
use Rattle.commands.proofs.Rising.{left_limits}
use Rattle.commands.proofs.Given.{last_given}
use Rattle.commands.proofs.Sure.{sure_pends, part_printed, part_last, part_cut, part_unread, none_given}
use Rattle.commands.proofs.listing.print_part.Goals as goal

pub returns-in-Err-clause-printed : goal.returns-in-Err-clause-printed
returns-in-Err-clause-printed g c = λ s tells held.
    let read = sure_pends s c.args.number 256 _ _ _ held (c.in-Err.ensures.pends s [] tells held) in
    let taken = g.K.Sink.taken c.args.output.now in
    let entries = left_from s c.args.number in
    subst (λ (note : Note). ArePrinted c.args.form entries note taken taken) (sym c.pend_note.ensures) (part_unread c.args.form entries c.in-Err.fault taken read.pends)

pub returns-in-Err-clause-kept : goal.returns-in-Err-clause-kept
returns-in-Err-clause-kept g c = λ s tells held.
    let read = sure_pends s c.args.number 256 _ _ _ held (c.in-Err.ensures.pends s [] tells held) in
    (read.reached, read.any_moment)

pub overflow_add-result : goal.overflow_add-result
overflow_add-result g c =
    let last = last_given c.args.number _ c.in-Ok.entries.items _ c.in-Some.last.now c.in-Ok.ensures.numbered c.deref-in-Fine.ensures.value c.in-Some.ensures.item.3.0 c.in-Some.ensures.item.1 in
    omega (arith, last.is.below)

pub returns-in-Some-clause-next : goal.returns-in-Some-clause-next
returns-in-Some-clause-next g c =
    let last = last_given c.args.number _ c.in-Ok.entries.items _ c.in-Some.last.now c.in-Ok.ensures.numbered c.deref-in-Fine.ensures.value c.in-Some.ensures.item.3.0 c.in-Some.ensures.item.1 in
    (omega (arith, last.is.above), omega (arith, last.is.below))

pub returns-in-Some-clause-printed : goal.returns-in-Some-clause-printed
returns-in-Some-clause-printed g c = λ s tells held.
    let read = sure_pends s c.args.number 256 _ _ _ held (c.in-Ok.ensures.pends s [] tells held) in
    let given = c.in-Ok.entries.items in
    let old = g.K.Sink.taken c.args.output.now in
    let new = g.K.Sink.taken c.print_entries.new.output in
    let one = c.in-Some.last.now in
    let last = last_given c.args.number _ given _ one c.in-Ok.ensures.numbered c.deref-in-Fine.ensures.value c.in-Some.ensures.item.3.0 c.in-Some.ensures.item.1 in
    part_printed c.args.form s c.args.number 256 given old new read.pends one (one.number + 1) last.some (ap (λ (x : Numbered). x.number + 1) last.place) (omega (arith, last.is.above))
    (subst (λ (l : List Numbered). ArePrinted c.args.form (given_entries l) Fine old new) c.deref.ensures.value c.in-Fine.ensures.printed)

pub returns-in-Some-clause-kept : goal.returns-in-Some-clause-kept
returns-in-Some-clause-kept g c = λ s tells held.
    let read = sure_pends s c.args.number 256 _ _ _ held (c.in-Ok.ensures.pends s [] tells held) in
    (read.reached, read.any_moment)

pub returns-in-Fine-clause-printed : goal.returns-in-Fine-clause-printed
returns-in-Fine-clause-printed g c = λ s tells held.
    let read = sure_pends s c.args.number 256 _ _ _ held (c.in-Ok.ensures.pends s [] tells held) in
    let given = c.in-Ok.entries.items in
    let old = g.K.Sink.taken c.args.output.now in
    let new = g.K.Sink.taken c.print_entries.new.output in
    part_last c.args.form s c.args.number 256 given old new read.pends (none_given given c.deref-in-Fine.result.now c.deref-in-Fine.ensures.value c.in-None.ensures.item.3) (omega arith)
    (subst (λ (l : List Numbered). ArePrinted c.args.form (given_entries l) Fine old new) c.deref.ensures.value c.in-Fine.ensures.printed)

pub returns-in-Fine-clause-kept : goal.returns-in-Fine-clause-kept
returns-in-Fine-clause-kept g c = λ s tells held.
    let read = sure_pends s c.args.number 256 _ _ _ held (c.in-Ok.ensures.pends s [] tells held) in
    (read.reached, read.any_moment)

pub returns-clause-known : goal.returns-clause-known
returns-clause-known g c = c.print_entries.ensures.known.0

pub returns-clause-unfinished : goal.returns-clause-unfinished
returns-clause-unfinished g c = c.in_default.not-Fine

pub returns-clause-calls : goal.returns-clause-calls
returns-clause-calls g c = calls_as _ _ _ _ c.in-Ok.ensures.calls (λ is. absurd (c.print_entries.ensures.known.1 cc)) (λ is. cc)

pub returns-clause-writes : goal.returns-clause-writes
returns-clause-writes g c = counts_as _ _ _ _ (λ is. cc) (λ is. ap Err is) c.print_entries.ensures.writes

pub returns-clause-printed : goal.returns-clause-printed
returns-clause-printed g c = λ s tells held.
    let read = sure_pends s c.args.number 256 _ _ _ held (c.in-Ok.ensures.pends s [] tells held) in
    let given = c.in-Ok.entries.items in
    let old = g.K.Sink.taken c.args.output.now in
    let new = g.K.Sink.taken c.print_entries.new.output in
    part_cut c.args.form s c.args.number 256 given old new read.pends c.print_entries.result (left_limits s c.args.number held.sound) c.in_default.not-Fine
    (subst (λ (l : List Numbered). ArePrinted c.args.form (given_entries l) c.print_entries.result old new) c.deref.ensures.value c.print_entries.ensures.printed)

pub returns-clause-kept : goal.returns-clause-kept
returns-clause-kept g c = λ s tells held.
    let read = sure_pends s c.args.number 256 _ _ _ held (c.in-Ok.ensures.pends s [] tells held) in
    (read.reached, read.any_moment)
