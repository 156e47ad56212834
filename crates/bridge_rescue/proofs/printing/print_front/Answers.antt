use Rattle.std.proofs.Common.{◌≡◌, ◌++◌, ◌∙◌, refl, sym, ap, subst}
use Rattle.std.specs.Prelude.{Err}
use Rattle.edge_disk.proofs.Calls.{calls_as}
use Rattle.spool_state.specs.Segment.{entries_of}
use Rattle.spool_slots.specs.declared.fault.ScanFault.TheVariants as Scan
use Rattle.conn_serve.proofs.Faults.{counts_none}
use Rattle.notes.specs.declared.note.Note.{Note}
use Rattle.notes.specs.declared.note.Note.TheVariants.{WriteFault, DiskFault}
use Rattle.bridge_rescue.specs.Lines.{Prints, IsPrintNote}
use Rattle.bridge_rescue.specs.Looking.{note_of_scan}
use Rattle.bridge_rescue.proofs.Ending.{scan_known, scan_written, scan_failed}
use Rattle.bridge_rescue.proofs.Fronting.{front_held, never_fails, same_size}
use Rattle.bridge_rescue.proofs.Reading.{up_none, up_first, scan_prints}
use Rattle.bridge_rescue.proofs.printing.print_front.Goals as goal

pub returns-clause-gathered : goal.returns-clause-gathered
returns-clause-gathered g c = λ segment tells known.
    let held = c.in-Ok.held.bytes.items in
    let same = same_size c.args.slot.now c.placed-front.result 0 _ _ (c.len.ensures ∙ c.in-Ok.ensures.size) c.placed-front.ensures in
    c.print_slot.ensures.gathered segment tt (front_held c.args.slot.now c.placed-front.result segment (g.D.Disk.moment c.args.disk.now).reads held known (c.in-Ok.ensures.bytes tells) same)

pub returns-clause-calls : goal.returns-clause-calls
returns-clause-calls g c = calls_as _ _ _ _ c.in-Ok.ensures.calls (λ failed. absurd (never_fails _ _ _ c.print_slot.ensures.calls failed)) (λ is. absurd (cc))

-- it was not read

pub returns-in-Err-clause-gathered : goal.returns-in-Err-clause-gathered
returns-in-Err-clause-gathered g c = λ segment tells known before start held.
    let taken = g.K.Sink.taken c.args.output.now in
    let lines = c.args.lines.now.items in
    subst (λ (note : Note). Prints note (before ++ entries_of segment) start taken) (sym c.note_of_scan.ensures)
    (scan_prints c.in-Err.fault (before ++ entries_of segment) start taken c.in-Err.ensures.known
    (up_first before (entries_of segment) start 0 taken lines (up_none before (entries_of segment) start taken lines 0 refl held)))

pub returns-in-Err-clause-known : goal.returns-in-Err-clause-known
returns-in-Err-clause-known g c = subst IsPrintNote (sym c.note_of_scan.ensures) (scan_known c.in-Err.fault)

pub returns-in-Err-clause-calls : goal.returns-in-Err-clause-calls
returns-in-Err-clause-calls g c =
    let fault = c.in-Err.fault in
    let note_is = c.note_of_scan.ensures in
    calls_as _ _ _ _ c.in-Err.ensures.calls
    (λ e. let is : c.note_of_scan.result ≡ DiskFault = cc in ap Err (scan_failed fault (sym note_is ∙ is)))
    (λ e. let is : fault ≡ Scan.DiskFault = cc in ap Err (note_is ∙ ap note_of_scan is))

pub returns-in-Err-clause-writes : goal.returns-in-Err-clause-writes
returns-in-Err-clause-writes g c =
    let note_is = c.note_of_scan.ensures in
    counts_none _ _ _ (λ e. let is : c.note_of_scan.result ≡ WriteFault = cc in scan_written c.in-Err.fault (sym note_is ∙ is)) refl
