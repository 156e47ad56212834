use Rattle.std.proofs.Common.{ℕ, List, inl, inr, refl, ap, sym, ◌∙◌, subst}
use Rattle.std.specs.Prelude.{None, Option}
use Rattle.edge_disk.proofs.Calls.{calls_none, calls_as}
use Rattle.edge_disk.proofs.Moments.{untouched_then, untouched_refl}
use Rattle.bridge_parts.specs.Run.{disk_run}
use Rattle.bridge_rescue.specs.declared.fault.SlotFault.{SlotFault}
use Rattle.bridge_rescue.specs.declared.found.Found.{Found}
use Rattle.bridge_rescue.specs.declared.gaps.Span.{Span}
use Rattle.bridge_rescue.specs.Gaps.{gaps_in, spans_of}
use Rattle.bridge_rescue.specs.Looking.{AreReadable, AreKnown}
use Rattle.bridge_restore.specs.RestoreRun.{EndsWith}
use Rattle.bridge_restore.proofs.Finishing.{ends_known, both_calls, restores_by}
use Rattle.bridge_restore.proofs.top.restore_slots.Goals as goal

pub find_gaps-requires-clause-readable : goal.find_gaps-requires-clause-readable
find_gaps-requires-clause-readable g c = (_, subst (AreReadable _) (sym c.deref.ensures.value) c.look_at_all.ensures.readable)

pub store_into-why-requires-clause-readable : goal.store_into-why-requires-clause-readable
store_into-why-requires-clause-readable g c =
    let looked = c.look_at_all.new.looked in
    let size = c.look_at_all.ensures.calls.size in
    subst (AreReadable (g.D.Disk.moment c.look_at_all.new.disk).size) (sym c.deref-2.ensures.value)
    (subst (λ (n : ℕ). AreReadable n looked.found.items) (sym size) c.look_at_all.ensures.readable)

-- no memory was found for looking at them
pub returns-in_default-clause-run : goal.returns-in_default-clause-run
returns-in_default-clause-run g c =
    rw (c.of.ensures.note, c.of.ensures.report, c.of.ensures.stored, c.of.ensures.disk, c.of.ensures.target)
    (λ given is. record {
      known = tt;
      calls = inl (calls_as ⊥ _ _ _ (calls_none _) (λ by. absurd (cc)) (λ none. absurd none), calls_none _);
      unchanged = λ tells. untouched_refl _;
      alone = λ none. (record { same = refl; size = refl; faults = refl }, refl);
      done = λ tells. inr refl;
    })

-- the slots were looked at
pub returns-clause-run : goal.returns-clause-run
returns-clause-run g c =
    let looked = c.look_at_all.new.looked in
    let gaps = c.find_gaps.new.gaps in
    let did = c.store_into-why.ensures in
    let why = c.store_into-why.result.why in
    let count = c.store_into-why.result.count in
    let ended = c.ending_of-note.result in
    let ends : EndsWith why count looked.faults.items gaps.items ended =
    subst (λ (l : List SlotFault). EndsWith why count l gaps.items ended) c.deref-3.ensures.value
    (subst (λ (l : List Span). EndsWith why count c.deref-3.result.now l ended) c.deref-4.ensures.value c.ending_of-note.ensures) in
    rw (c.of-2.ensures.note, c.of-2.ensures.report, c.of-2.ensures.stored, c.of-2.ensures.disk, c.of-2.ensures.target)
    (λ given is. record {
      known = ends_known why count looked.faults.items gaps.items ended did.known ends;
      calls = both_calls looked.faults.items gaps.items count _ _ _ _ _ c.look_at_all.ensures.calls why ended ends did.disks;
      unchanged = λ tells. untouched_then _ _ _ (g.met.D.Disk.lawful c.args.disk tells) (c.look_at_all.ensures.told tells) (did.told tells);
      alone = λ none. absurd (cc);
      done = λ tells.
          let reads = (g.D.Disk.moment c.args.disk).reads in
          let knows = c.look_at_all.ensures.known tells in
          let same = (c.look_at_all.ensures.told tells).same in
          let known = subst (λ (l : List Found). AreKnown knows.found l (g.D.Disk.moment c.look_at_all.new.disk).reads) (sym c.deref-2.ensures.value)
          (subst (AreKnown knows.found looked.found.items) (sym same) knows.known) in
          restores_by given c.args.tag c.args.layout reads knows.found looked.found.items _
          (disk_run g.E.Disk.tells g.E.Disk.moment c.args.target c.store_into-why.result.target) why count ended (is tells) knows.known knows.judged refl knows.counted
          (c.find_gaps.ensures ∙ ap (λ (l : List Found). gaps_in (spans_of l)) c.deref.ensures.value) (did.stored knows.found tells known) refl ends;
    })
