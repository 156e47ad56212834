use Rattle.std.proofs.Common.{ℕ, List, inl, inr, ap, refl, sym, ◌∙◌, subst}
use Rattle.std.specs.Prelude.{Some}
use Rattle.edge_disk.proofs.Moments.{untouched_then}
use Rattle.conn_serve.proofs.Faults.{counts_as}
use Rattle.bridge_parts.specs.Run.{output_run}
use Rattle.bridge_rescue.specs.declared.fault.SlotFault.{SlotFault}
use Rattle.bridge_rescue.specs.declared.gaps.Span.{Span}
use Rattle.bridge_rescue.specs.declared.found.Found.{Found}
use Rattle.bridge_rescue.specs.Faults.{IsVerdict}
use Rattle.bridge_rescue.specs.Gaps.{gaps_in, spans_of}
use Rattle.bridge_rescue.specs.Looking.{AreReadable, AreKnown}
use Rattle.bridge_rescue.proofs.Ending.{verdict_known, verdict_written, print_unfinished, calls_whole, rescues_by}
use Rattle.bridge_rescue.proofs.top.rescue_slots.Goals as goal

pub find_gaps-requires-clause-readable : goal.find_gaps-requires-clause-readable
find_gaps-requires-clause-readable g c = (_, subst (AreReadable _) (sym c.deref.ensures.value) c.look_at_all.ensures.readable)

pub print_slots-requires-clause-readable : goal.print_slots-requires-clause-readable
print_slots-requires-clause-readable g c =
    let looked = c.look_at_all.new.looked in
    let size = c.look_at_all.ensures.calls.size in
    subst (AreReadable (g.D.Disk.moment c.look_at_all.new.disk).size) (sym c.deref-2.ensures.value)
    (subst (λ (n : ℕ). AreReadable n looked.found.items) (sym size) c.look_at_all.ensures.readable)

-- all were printed

pub returns-in-Ok-print_slots-clause-known : goal.returns-in-Ok-print_slots-clause-known
returns-in-Ok-print_slots-clause-known g c = verdict_known _ _ _ c.verdict-note.ensures

pub returns-in-Ok-print_slots-clause-calls : goal.returns-in-Ok-print_slots-clause-calls
returns-in-Ok-print_slots-clause-calls g c =
    let faults = c.look_at_all.new.looked.faults.items in
    let verdict = subst (λ (l : List SlotFault). IsVerdict l c.deref-in-Ok-print_slots-2.result.now c.verdict-note.result) c.deref-in-Ok-print_slots.ensures.value c.verdict-note.ensures in
    calls_whole faults _ _ _ c.look_at_all.ensures.calls c.deref-in-Ok-print_slots-2.result.now c.verdict-note.result c.in-Ok-print_slots.count verdict c.in-Ok-print_slots.ensures.calls

pub returns-in-Ok-print_slots-clause-told : goal.returns-in-Ok-print_slots-clause-told
returns-in-Ok-print_slots-clause-told g c = λ tells.
    untouched_then _ _ _ (g.met.D.Disk.lawful c.args.disk.now tells) (c.look_at_all.ensures.told tells) (c.in-Ok-print_slots.ensures.told tells)

pub returns-in-Ok-print_slots-clause-writes : goal.returns-in-Ok-print_slots-clause-writes
returns-in-Ok-print_slots-clause-writes g c =
    counts_as _ _ _ _ (λ by. absurd (verdict_written _ _ _ c.verdict-note.ensures by)) (λ e. absurd (cc)) c.in-Ok-print_slots.ensures.writes

pub returns-in-Ok-print_slots-clause-done : goal.returns-in-Ok-print_slots-clause-done
returns-in-Ok-print_slots-clause-done g c = λ tells.
    let looked = c.look_at_all.new.looked in
    let reads = (g.D.Disk.moment c.args.disk.now).reads in
    let knows = c.look_at_all.ensures.known tells in
    let same = (c.look_at_all.ensures.told tells).same in
    let known = subst (λ (l : List Found). AreKnown knows.found l (g.D.Disk.moment c.look_at_all.new.disk).reads) (sym c.deref-2.ensures.value)
    (subst (AreKnown knows.found looked.found.items) (sym same) knows.known) in
    let printed = c.in-Ok-print_slots.ensures.printed knows.found tells known in
    let verdict = subst (λ (l : List SlotFault). IsVerdict l c.find_gaps.new.gaps.items c.verdict-note.result) c.deref-in-Ok-print_slots.ensures.value
    (subst (λ (l : List Span). IsVerdict c.deref-in-Ok-print_slots.result.now l c.verdict-note.result) c.deref-in-Ok-print_slots-2.ensures.value c.verdict-note.ensures) in
    rescues_by c.args.layout reads knows.found looked.found.items _ (output_run g.K.Sink.taken g.K.Sink.write_faults c.args.output.now c.print_slots.new.output) c.verdict-note.result
    knows.known knows.judged refl knows.counted (c.find_gaps.ensures ∙ ap (λ (l : List Found). gaps_in (spans_of l)) c.deref.ensures.value) (inl (printed.0, ap Some printed.1, verdict))

-- not all were

pub returns-clause-told : goal.returns-clause-told
returns-clause-told g c = λ tells.
    untouched_then _ _ _ (g.met.D.Disk.lawful c.args.disk.now tells) (c.look_at_all.ensures.told tells) (c.in-Err.ensures.told tells)

pub returns-clause-done : goal.returns-clause-done
returns-clause-done g c = λ tells.
    let looked = c.look_at_all.new.looked in
    let reads = (g.D.Disk.moment c.args.disk.now).reads in
    let knows = c.look_at_all.ensures.known tells in
    let same = (c.look_at_all.ensures.told tells).same in
    let known = subst (λ (l : List Found). AreKnown knows.found l (g.D.Disk.moment c.look_at_all.new.disk).reads) (sym c.deref-2.ensures.value)
    (subst (AreKnown knows.found looked.found.items) (sym same) knows.known) in
    let printed = c.in-Err.ensures.printed knows.found tells known in
    rescues_by c.args.layout reads knows.found looked.found.items _ (output_run g.K.Sink.taken g.K.Sink.write_faults c.args.output.now c.print_slots.new.output) c.in-Err.note
    knows.known knows.judged refl knows.counted (c.find_gaps.ensures ∙ ap (λ (l : List Found). gaps_in (spans_of l)) c.deref.ensures.value) (inr (printed, refl, print_unfinished c.in-Err.note c.in-Err.ensures.known))
