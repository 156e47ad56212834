use Rattle.std.proofs.Common.{◌≡◌, ◌+◌, ◌-◌, ◌≤◌, ℕ, List, length, sym, ap, subst, arith}
use Rattle.std.specs.Prelude.{All}
use Rattle.event_form.specs.declared.event.Entry.{Entry}
use Rattle.event_form.specs.Entry.{IsEntry}
use Rattle.edge_disk.proofs.Calls.{calls_none, calls_on, calls_as}
use Rattle.edge_disk.proofs.Moments.{untouched_refl, untouched_then}
use Rattle.spool_state.specs.Segment.{entries_of}
use Rattle.spool_slots.specs.Slot.{Knows}
use Rattle.spool_log.specs.State.{view}
use Rattle.bridge_restore.specs.declared.fault.StoreFault.TheVariants.{Untaken}
use Rattle.bridge_restore.specs.Storing.{HasStored, StopsStoring}
use Rattle.bridge_restore.specs.Told.{told_from}
use Rattle.bridge_restore.proofs.Parts.{upto_none, upto_more, upto_cut, upto_unread, upto_all}
use Rattle.bridge_restore.proofs.storing.store_slot.Goals as goal

pub parts-init : goal.parts-init
parts-init g c = record {
  calls = calls_none _;
  target_calls = calls_none _;
  told = λ tells. untouched_refl _;
  begins = omega (arith, c.start-mark.ensures.number);
  ends = omega (arith, c.start-mark.ensures.number);
  stored = λ segment t tells tells' knows held. (
    c.start-mark.ensures.mark segment _ knows,
    upto_none c.args.tag segment t _ (c.start-mark.result.number - segment.first) (omega (arith, c.start-mark.ensures.number, knows.first)) held
        (g.met.E.Disk.lawful c.args.target.now.disk tells'),
  );
}

pub store_entries-requires-clause-limits : goal.store_entries-requires-clause-limits
store_entries-requires-clause-limits g c = c.in-Ok.ensures.limits

pub store_entries-requires-clause-ends : goal.store_entries-requires-clause-ends
store_entries-requires-clause-ends g c = omega (arith, c.requires.readable.ends, c.in-Ok.ensures.count, c.parts.invariant.begins, c.parts.invariant.ends)

pub parts-preserved : goal.parts-preserved
parts-preserved g c =
    let inv = c.parts.invariant in
    let call = c.in-Ok.ensures in
    let part = c.in-Ok.part in
    let did = c.in_default.ensures in
    let old = view c.args.target.now.memory c.args.target.now.doubt (g.E.Disk.moment c.args.target.now.disk) in
    let mid = view c.parts.target.memory c.parts.target.doubt (g.E.Disk.moment c.parts.target.disk) in
    let new = view c.store_entries.new.target.memory c.store_entries.new.target.doubt (g.E.Disk.moment c.store_entries.new.target.disk) in
    record {
      calls = calls_on ⊥ ⊥ _ _ _ inv.calls (λ f. f) (calls_as _ ⊥ _ _ call.calls (λ f. absurd f) (λ h. absurd (cc h)));
      target_calls = calls_on ⊥ ⊥ _ _ _ inv.target_calls (λ f. f) (calls_as _ ⊥ _ _ did.calls (λ f. absurd f) (λ h. absurd (cc h)));
      told = λ tells. untouched_then _ _ _ (g.met.D.Disk.lawful c.args.disk.now tells) (inv.told tells) (call.told tells);
      begins = omega (arith, inv.begins, call.number);
      ends = omega (arith, inv.begins, call.number, call.count);
      stored = λ segment t tells tells' knows held.
          let up = inv.stored segment t tells tells' knows held in
          let here = subst (Knows c.args.slot.now segment) (sym (inv.told tells).same) knows in
          let read = call.part segment tells here up.0 in
          let k = c.parts.mark.number - segment.first in
          let at : c.parts.mark.number ≡ segment.first + k = omega (arith, inv.begins, knows.first) in
          let added = subst (λ (n : ℕ). HasStored up.1.stored.t (told_from c.args.tag n part.entries.items) mid new) at
          (did.stored up.1.stored.t tells' up.1.stored.reached) in (
            read.1,
            upto_more c.args.tag segment t old k mid up.1 256 (part.mark.number - segment.first) part.entries.items new read.0
                (omega (arith, inv.begins, call.number, knows.first)) added,
          );
    }

pub returns-in-Err-clause-stored : goal.returns-in-Err-clause-stored
returns-in-Err-clause-stored g c = λ segment t tells tells' knows held.
    let inv = c.parts.invariant in
    let old = view c.args.target.now.memory c.args.target.now.doubt (g.E.Disk.moment c.args.target.now.disk) in
    let mid = view c.parts.target.memory c.parts.target.doubt (g.E.Disk.moment c.parts.target.disk) in
    let up = inv.stored segment t tells tells' knows held in
    let here = subst (Knows c.args.slot.now segment) (sym (inv.told tells).same) knows in
    let read = c.in-Err.ensures.part segment tells here up.0 in
    upto_unread c.args.tag segment t old (c.parts.mark.number - segment.first) mid up.1 c.in-Err.fault read

pub returns-in-Err-store_entries-clause-stored : goal.returns-in-Err-store_entries-clause-stored
returns-in-Err-store_entries-clause-stored g c = λ segment t tells tells' knows held.
    let inv = c.parts.invariant in
    let old = view c.args.target.now.memory c.args.target.now.doubt (g.E.Disk.moment c.args.target.now.disk) in
    let mid = view c.parts.target.memory c.parts.target.doubt (g.E.Disk.moment c.parts.target.disk) in
    let new = view c.store_entries.new.target.memory c.store_entries.new.target.doubt (g.E.Disk.moment c.store_entries.new.target.disk) in
    let up = inv.stored segment t tells tells' knows held in
    let here = subst (Knows c.args.slot.now segment) (sym (inv.told tells).same) knows in
    let read = c.in-Ok.ensures.part segment tells here up.0 in
    let part = c.in-Ok.part in
    let fault = c.in-Err-store_entries.fault in
    let k = c.parts.mark.number - segment.first in
    let at : c.parts.mark.number ≡ segment.first + k = omega (arith, inv.begins, knows.first) in
    let cut = subst (λ (n : ℕ). StopsStoring up.1.stored.t (told_from c.args.tag n part.entries.items) (Untaken fault) mid new) at
    (c.in-Err-store_entries.ensures.stored up.1.stored.t tells' up.1.stored.reached) in
    upto_cut c.args.tag segment t old k mid up.1 256 part.entries.items (Untaken fault) new read.0 cut

pub returns-clause-stored : goal.returns-clause-stored
returns-clause-stored g c = λ segment t tells tells' knows held.
    let inv = c.parts.invariant in
    let old = view c.args.target.now.memory c.args.target.now.doubt (g.E.Disk.moment c.args.target.now.disk) in
    let new = view c.parts.target.memory c.parts.target.doubt (g.E.Disk.moment c.parts.target.disk) in
    let up = inv.stored segment t tells tells' knows held in
    upto_all c.args.tag segment t old (c.parts.mark.number - segment.first) new up.1 (omega (arith, c.parts-test.false, inv.begins, knows.first, knows.count))

pub parts-smaller : goal.parts-smaller
parts-smaller g c = omega (arith, c.in-Ok.ensures.number, c.in-Ok.ensures.count, c.parts-test.true)
