use Rattle.std.specs.Prelude.{All, Err}
use Rattle.std.proofs.Common.{◌≡◌, ◌-◌, ◌++◌, ◌∙◌, List, refl, sym, ap, subst, arith}
use Rattle.event_form.specs.declared.event.Entry.{Entry}
use Rattle.event_form.specs.Entry.{IsEntry}
use Rattle.edge_disk.proofs.Calls.{calls_none, calls_on, calls_as}
use Rattle.edge_disk.proofs.Moments.{untouched_refl, untouched_then}
use Rattle.spool_state.specs.Segment.{entries_of}
use Rattle.spool_slots.specs.Slot.{Knows}
use Rattle.spool_slots.specs.declared.fault.ScanFault.TheVariants as Scan
use Rattle.spool_slots.proofs.Faults.{handed}
use Rattle.conn_serve.proofs.Acting.{err_is}
use Rattle.conn_serve.proofs.Faults.{counts_none}
use Rattle.notes.specs.declared.note.Note.{Note}
use Rattle.notes.specs.declared.note.Note.TheVariants.{WriteFault, DiskFault}
use Rattle.bridge_rescue.specs.Lines.{Gathered, Prints, IsPrintNote}
use Rattle.bridge_rescue.specs.Looking.{note_of_scan}
use Rattle.bridge_rescue.proofs.Ending.{line_unfinished, line_print, line_read, err_note, scan_known, scan_written, scan_failed}
use Rattle.bridge_rescue.proofs.Reading.{up_none, up_more, up_cut, up_first, up_all, scan_prints}
use Rattle.bridge_rescue.proofs.printing.print_slot.Goals as goal

pub parts-init : goal.parts-init
parts-init g c = record {
  calls = calls_none _;
  told = λ tells. untouched_refl _;
  writes = refl;
  begins = omega (arith, c.start-mark.ensures.number);
  ends = omega (arith, c.start-mark.ensures.number);
  gathers = λ segment before start tells knows held. (
    c.start-mark.ensures.mark segment _ knows,
    up_none before (entries_of segment) start _ _ (c.start-mark.result.number - segment.first) (omega (arith, c.start-mark.ensures.number, knows.first)) held,
  );
}

pub parts-preserved : goal.parts-preserved
parts-preserved g c =
    let inv = c.parts.invariant in
    let call = c.in-Ok.ensures in
    let part = c.in-Ok.part in
    record {
      calls = calls_on ⊥ ⊥ _ _ _ inv.calls (λ f. f) (calls_as _ ⊥ _ _ call.calls (λ f. absurd f) (λ h. absurd (cc h)));
      told = λ tells. untouched_then _ _ _ (g.met.D.Disk.lawful c.args.disk.now tells) (inv.told tells) (call.told tells);
      writes = c.in_ok-add_entries.ensures.writes.quiet (λ is. cc) ∙ inv.writes;
      begins = omega (arith, inv.begins, call.number);
      ends = omega (arith, inv.begins, call.number, call.count);
      gathers = λ segment before start tells knows held.
          let up = inv.gathers segment before start tells knows held in
          let here = subst (Knows c.args.slot.now segment) (sym (inv.told tells).same) knows in
          let read = call.part segment tells here up.0 in
          let added = subst (λ (l : List Entry). Gathered (up.1.first ++ l) start (g.K.Sink.taken c.add_entries.new.output) c.add_entries.new.lines.items) c.deref.ensures.value
          (c.in_ok-add_entries.ensures.gathered up.1.first start up.1.gathered) in (
            read.1,
            up_more before (entries_of segment) start (c.parts.mark.number - segment.first) _ _ up.1 256 (part.mark.number - segment.first) part.entries.items _ _ read.0
                (omega (arith, inv.begins, call.number, knows.first)) added,
          );
    }

pub returns-in-Err-clause-gathered : goal.returns-in-Err-clause-gathered
returns-in-Err-clause-gathered g c = λ segment tells knows before start held.
    let inv = c.parts.invariant in
    let up = inv.gathers segment before start tells knows held in
    let here = subst (Knows c.args.slot.now segment) (sym (inv.told tells).same) knows in
    let read = c.in-Err.ensures.part segment tells here up.0 in
    let taken = g.K.Sink.taken c.parts.output in
    subst (λ (note : Note). Prints note (before ++ entries_of segment) start taken) (sym c.note_of_scan.ensures)
    (scan_prints c.in-Err.fault (before ++ entries_of segment) start taken read (up_first before (entries_of segment) start (c.parts.mark.number - segment.first) _ _ up.1))

pub returns-in_err-add_entries-clause-gathered : goal.returns-in_err-add_entries-clause-gathered
returns-in_err-add_entries-clause-gathered g c = λ segment tells knows before start held.
    let inv = c.parts.invariant in
    let up = inv.gathers segment before start tells knows held in
    let here = subst (Knows c.args.slot.now segment) (sym (inv.told tells).same) knows in
    let read = c.in-Ok.ensures.part segment tells here up.0 in
    let note = c.in_err-add_entries.field-0.0 in
    let taken = g.K.Sink.taken c.add_entries.new.output in
    let added = subst (λ (l : List Entry). Prints note (up.1.first ++ l) start taken) c.deref.ensures.value (c.in_err-add_entries.ensures.gathered up.1.first start up.1.gathered) in
    handed _ _ _ _ c.from_residual.ensures.1
    (up_cut before (entries_of segment) start (c.parts.mark.number - segment.first) _ _ up.1 256 c.in-Ok.part.entries.items note taken read.0 (line_unfinished note c.in_err-add_entries.ensures.known) added)

pub returns-clause-gathered : goal.returns-clause-gathered
returns-clause-gathered g c = λ segment tells knows before start held.
    let inv = c.parts.invariant in
    let up = inv.gathers segment before start tells knows held in
    up_all before (entries_of segment) start (c.parts.mark.number - segment.first) _ _ up.1 (omega (arith, c.parts-test.false, inv.begins, knows.first, knows.count))

pub parts-smaller : goal.parts-smaller
parts-smaller g c = omega (arith, c.in-Ok.ensures.number, c.in-Ok.ensures.count, c.parts-test.true)

pub add_entries-requires-clause-limits : goal.add_entries-requires-clause-limits
add_entries-requires-clause-limits g c = subst (All IsEntry) (sym c.deref.ensures.value) c.in-Ok.ensures.limits

-- why it was not read

pub returns-in-Err-clause-known : goal.returns-in-Err-clause-known
returns-in-Err-clause-known g c = subst IsPrintNote (sym c.note_of_scan.ensures) (scan_known c.in-Err.fault)

pub returns-in-Err-clause-calls : goal.returns-in-Err-clause-calls
returns-in-Err-clause-calls g c =
    let fault = c.in-Err.fault in
    let note_is = c.note_of_scan.ensures in
    calls_on ⊥ _ _ _ _ c.parts.invariant.calls (λ f. f)
    (calls_as _ _ _ _ c.in-Err.ensures.calls
    (λ e. let is : c.note_of_scan.result ≡ DiskFault = cc in ap Err (scan_failed fault (sym note_is ∙ is)))
    (λ e. let is : fault ≡ Scan.DiskFault = cc in ap Err (note_is ∙ ap note_of_scan is)))

pub returns-in-Err-clause-writes : goal.returns-in-Err-clause-writes
returns-in-Err-clause-writes g c =
    let note_is = c.note_of_scan.ensures in
    counts_none _ _ _ (λ e. let is : c.note_of_scan.result ≡ WriteFault = cc in scan_written c.in-Err.fault (sym note_is ∙ is)) c.parts.invariant.writes

-- or not made and written

pub returns-in_err-add_entries-clause-known : goal.returns-in_err-add_entries-clause-known
returns-in_err-add_entries-clause-known g c = err_is c.from_residual.result _ IsPrintNote c.from_residual.ensures.1 (line_print _ c.in_err-add_entries.ensures.known)

pub returns-in_err-add_entries-clause-calls : goal.returns-in_err-add_entries-clause-calls
returns-in_err-add_entries-clause-calls g c =
    calls_on ⊥ _ _ _ _ c.parts.invariant.calls (λ f. f)
    (calls_as _ _ _ _ c.in-Ok.ensures.calls
    (λ e. absurd (line_read _ c.in_err-add_entries.ensures.known (err_note c.from_residual.result _ DiskFault c.from_residual.ensures.1 e)))
    (λ h. absurd (cc h)))
