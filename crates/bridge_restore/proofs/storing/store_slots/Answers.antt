use Rattle.std.proofs.Common.{ℕ, List, take, sym, subst, arith}
use Rattle.event_form.specs.declared.event.Entry.{Entry}
use Rattle.edge_disk.proofs.Calls.{calls_none, calls_on, calls_as}
use Rattle.edge_disk.proofs.Moments.{untouched_refl, untouched_then}
use Rattle.spool_state.specs.SpoolState.{OpenSlot}
use Rattle.spool_slots.proofs.Faults.{handed}
use Rattle.spool_log.specs.State.{view}
use Rattle.bridge_rescue.specs.declared.found.Found.{Found}
use Rattle.bridge_rescue.specs.Looking.{IsReadableSlot, AreKnown}
use Rattle.bridge_rescue.proofs.Listed.{all_slots}
use Rattle.bridge_restore.specs.Storing.{HasStored, StopsStoring}
use Rattle.bridge_restore.specs.Told.{told_of, told}
use Rattle.bridge_restore.proofs.Joining.{stored_none, stored_then, stops_then, stops_more}
use Rattle.bridge_restore.proofs.Slots.{next_told}
use Rattle.bridge_restore.proofs.storing.store_slots.Goals as goal

pub loop-found-init : goal.loop-found-init
loop-found-init g c = record {
  calls = calls_none _;
  target_calls = calls_none _;
  untouched = λ tells. untouched_refl _;
  stored = λ slots t tells tells' known held. stored_none t _ held (g.met.E.Disk.lawful c.args.target.now.disk tells');
}

pub store_found-requires : goal.store_found-requires
store_found-requires g c =
    let found = c.found-item.result in
    let one = subst (λ (f : Found). IsReadableSlot (g.D.Disk.moment c.args.disk.now).size f.slot) (sym c.found-item.is) (c.requires.readable c.loop-found.found-index found c.loop-found-test.true) in
    record { readable = subst (λ (n : ℕ). IsReadableSlot n found.slot) (sym c.loop-found.invariant.calls.size) one }

pub loop-found-preserved : goal.loop-found-preserved
loop-found-preserved g c =
    let inv = c.loop-found.invariant in
    let i = c.loop-found.found-index in
    let found = c.found-item.result in
    let call = c.in_ok-store_found.ensures in
    let old = view c.args.target.now.memory c.args.target.now.doubt (g.E.Disk.moment c.args.target.now.disk) in
    let mid = view c.loop-found.target.memory c.loop-found.target.doubt (g.E.Disk.moment c.loop-found.target.disk) in
    let new = view c.store_found.new.target.memory c.store_found.new.target.doubt (g.E.Disk.moment c.store_found.new.target.disk) in
    record {
      calls = calls_on ⊥ ⊥ _ _ _ inv.calls (λ f. f) (calls_as _ ⊥ _ _ call.calls (λ f. absurd f) (λ h. absurd (cc h)));
      target_calls = calls_on ⊥ ⊥ _ _ _ inv.target_calls (λ f. f) (calls_as _ ⊥ _ _ call.target_calls (λ f. absurd f) (λ h. absurd (cc h)));
      untouched = λ tells. untouched_then _ _ _ (g.met.D.Disk.lawful c.args.disk.now tells) (inv.untouched tells) (call.told tells);
      stored = λ slots t tells tells' known held.
          let before = inv.stored slots t tells tells' known held in
          let here = subst (AreKnown slots c.args.founds.now) (sym (inv.untouched tells).same) known in
          let n = next_told c.args.tag slots c.args.founds.now _ i found here c.loop-found-test.true c.found-item.is in
          subst (λ (l : List Entry). HasStored t l old new) (sym n.more)
          (stored_then t (told c.args.tag (take i slots)) (told_of c.args.tag n.one.segment) old mid new before
          (call.stored n.one.segment before.t tells tells' n.knows before.reached));
    }

pub returns-in_err-store_found-clause-stored : goal.returns-in_err-store_found-clause-stored
returns-in_err-store_found-clause-stored g c = λ slots t tells tells' known held.
    let inv = c.loop-found.invariant in
    let i = c.loop-found.found-index in
    let found = c.found-item.result in
    let old = view c.args.target.now.memory c.args.target.now.doubt (g.E.Disk.moment c.args.target.now.disk) in
    let mid = view c.loop-found.target.memory c.loop-found.target.doubt (g.E.Disk.moment c.loop-found.target.disk) in
    let new = view c.store_found.new.target.memory c.store_found.new.target.doubt (g.E.Disk.moment c.store_found.new.target.disk) in
    let fault = c.in_err-store_found.field-0.0 in
    let before = inv.stored slots t tells tells' known held in
    let here = subst (AreKnown slots c.args.founds.now) (sym (inv.untouched tells).same) known in
    let n = next_told c.args.tag slots c.args.founds.now _ i found here c.loop-found-test.true c.found-item.is in
    let first = told c.args.tag (take i slots) in
    let its = told_of c.args.tag n.one.segment in
    handed _ _ _ _ c.from_residual.ensures.1
    (subst (λ (l : List Entry). StopsStoring t l fault old new) (sym n.whole)
    (stops_more t _ n.rest fault old new
    (stops_then t first its old mid new before fault (c.in_err-store_found.ensures.stored n.one.segment before.t tells tells' n.knows before.reached))))

pub returns-clause-stored : goal.returns-clause-stored
returns-clause-stored g c = λ slots t tells tells' known held.
    let inv = c.loop-found.invariant in
    let old = view c.args.target.now.memory c.args.target.now.doubt (g.E.Disk.moment c.args.target.now.disk) in
    let new = view c.loop-found.target.memory c.loop-found.target.doubt (g.E.Disk.moment c.loop-found.target.disk) in
    let whole = all_slots slots c.args.founds.now _ c.loop-found.found-index known (omega (arith, c.loop-found-test.false)) in
    subst (λ (l : List OpenSlot). HasStored t (told c.args.tag l) old new) whole (inv.stored slots t tells tells' known held)
