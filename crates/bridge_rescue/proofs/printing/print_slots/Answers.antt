use Rattle.std.proofs.Common.{◌∙◌, ℕ, List, length, take, refl, sym, ap, subst, arith, length-append}
use Rattle.event_form.specs.declared.event.Entry.{Entry}
use Rattle.edge_disk.proofs.Calls.{calls_none, calls_on, calls_as}
use Rattle.edge_disk.proofs.Moments.{untouched_refl, untouched_then}
use Rattle.spool_state.specs.Segment.{entries_of}
use Rattle.spool_state.specs.SpoolState.{OpenSlot, entries_in}
use Rattle.spool_slots.proofs.Faults.{handed}
use Rattle.conn_serve.proofs.Acting.{err_is}
use Rattle.notes.specs.declared.note.Note.TheVariants.{DiskFault}
use Rattle.bridge_rescue.specs.declared.found.Found.{Found}
use Rattle.bridge_rescue.specs.Lines.{Gathered, IsPrintNote}
use Rattle.bridge_rescue.specs.Looking.{IsReadableSlot, AreKnown}
use Rattle.bridge_rescue.proofs.Gathering.{gathered_none}
use Rattle.bridge_rescue.proofs.Listed.{next_slot, all_slots, stopped_in}
use Rattle.bridge_rescue.proofs.Ending.{print_unfinished, line_print, line_read, err_note}
use Rattle.bridge_rescue.proofs.printing.print_slots.Goals as goal

pub loop-found-init : goal.loop-found-init
loop-found-init g c = record {
  calls = calls_none _;
  told = λ tells. untouched_refl _;
  writes = refl;
  few = omega arith;
  gathered = λ sound tells known. (gathered_none _ _ c.new-lines.ensures.items, refl);
}

pub print_found-requires-clause-readable : goal.print_found-requires-clause-readable
print_found-requires-clause-readable g c =
    let found = c.found-item.result in
    let one = subst (λ (f : Found). IsReadableSlot (g.D.Disk.moment c.args.disk.now).size f.slot) (sym c.found-item.is) (c.requires.readable c.loop-found.found-index found c.loop-found-test.true) in
    subst (λ (n : ℕ). IsReadableSlot n found.slot) (sym c.loop-found.invariant.calls.size) one

pub loop-found-preserved : goal.loop-found-preserved
loop-found-preserved g c =
    let inv = c.loop-found.invariant in
    let i = c.loop-found.found-index in
    let slot = c.found-item.result in
    let call = c.in_ok-print_found.ensures in
    record {
      calls = calls_on ⊥ ⊥ _ _ _ inv.calls (λ f. f) (calls_as _ ⊥ _ _ call.calls (λ f. absurd f) (λ h. absurd (cc h)));
      told = λ tells. untouched_then _ _ _ (g.met.D.Disk.lawful c.args.disk.now tells) (inv.told tells) (call.told tells);
      writes = call.writes.quiet (λ is. cc) ∙ inv.writes;
      few = omega (arith, inv.few, slot.slot.counted, slot.slot.inside, slot.slot.small);
      gathered = λ sound tells known.
          let before = inv.gathered sound tells known in
          let here = subst (AreKnown sound c.args.founds.now) (sym (inv.told tells).same) known in
          let n = next_slot sound c.args.founds.now _ i slot here c.loop-found-test.true c.found-item.is in (
            subst (λ (l : List Entry). Gathered l (g.K.Sink.taken c.args.output.now) (g.K.Sink.taken c.print_found.new.output) c.print_found.new.lines.items) (sym n.more)
                (call.gathered n.one.segment tells n.knows (entries_in (take i sound)) (g.K.Sink.taken c.args.output.now) before.0),
            omega (arith, before.1, n.knows.count, ap length n.more, length-append (entries_in (take i sound)) (entries_of n.one.segment)),
          );
    }

pub returns-in_err-print_found-clause-printed : goal.returns-in_err-print_found-clause-printed
returns-in_err-print_found-clause-printed g c = λ sound tells known.
    let inv = c.loop-found.invariant in
    let i = c.loop-found.found-index in
    let slot = c.found-item.result in
    let note = c.in_err-print_found.field-0.0 in
    let taken = g.K.Sink.taken c.args.output.now in
    let before = inv.gathered sound tells known in
    let here = subst (AreKnown sound c.args.founds.now) (sym (inv.told tells).same) known in
    let n = next_slot sound c.args.founds.now _ i slot here c.loop-found-test.true c.found-item.is in
    handed _ _ _ _ c.from_residual.ensures.1
    (stopped_in sound slot _ i n note taken _ (print_unfinished note c.in_err-print_found.ensures.known)
    (c.in_err-print_found.ensures.gathered n.one.segment tells n.knows (entries_in (take i sound)) taken before.0))

pub returns-in_err-write_rest-clause-printed : goal.returns-in_err-write_rest-clause-printed
returns-in_err-write_rest-clause-printed g c = λ sound tells known.
    let inv = c.loop-found.invariant in
    let taken = g.K.Sink.taken c.args.output.now in
    let whole = all_slots sound c.args.founds.now _ c.loop-found.found-index known (omega (arith, c.loop-found-test.false)) in
    let before = subst (λ (l : List OpenSlot). Gathered (entries_in l) taken (g.K.Sink.taken c.loop-found.output) c.loop-found.lines.items) whole (inv.gathered sound tells known).0 in
    let held = subst (Gathered (entries_in sound) taken (g.K.Sink.taken c.loop-found.output)) (sym c.deref.ensures.value) before in
    handed _ _ _ _ c.from_residual-in_err-write_rest.ensures.1 (c.in_err-write_rest.ensures.printed (entries_in sound) taken held)

pub returns-clause-printed : goal.returns-clause-printed
returns-clause-printed g c = λ sound tells known.
    let inv = c.loop-found.invariant in
    let taken = g.K.Sink.taken c.args.output.now in
    let whole = all_slots sound c.args.founds.now _ c.loop-found.found-index known (omega (arith, c.loop-found-test.false)) in
    let before = subst (λ (l : List OpenSlot). Gathered (entries_in l) taken (g.K.Sink.taken c.loop-found.output) c.loop-found.lines.items) whole (inv.gathered sound tells known).0 in
    let held = subst (Gathered (entries_in sound) taken (g.K.Sink.taken c.loop-found.output)) (sym c.deref.ensures.value) before in
    (c.in_ok-write_rest.ensures.printed (entries_in sound) taken held, (inv.gathered sound tells known).1 ∙ ap (λ (l : List OpenSlot). length (entries_in l)) whole)

pub returns-in_err-write_rest-clause-known : goal.returns-in_err-write_rest-clause-known
returns-in_err-write_rest-clause-known g c =
    err_is c.from_residual-in_err-write_rest.result _ IsPrintNote c.from_residual-in_err-write_rest.ensures.1 (line_print _ c.in_err-write_rest.ensures.known)

pub returns-in_err-write_rest-clause-calls : goal.returns-in_err-write_rest-clause-calls
returns-in_err-write_rest-clause-calls g c =
    calls_as ⊥ _ _ _ c.loop-found.invariant.calls
    (λ e. absurd (line_read _ c.in_err-write_rest.ensures.known (err_note c.from_residual-in_err-write_rest.result _ DiskFault c.from_residual-in_err-write_rest.ensures.1 e)))
    (λ never. absurd never)
