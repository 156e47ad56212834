use Rattle.std.proofs.Common.{inl, inr, sym, subst}
use Rattle.std.specs.Prelude.{Result}
use Rattle.edge_disk.proofs.Calls.{calls_as}
use Rattle.edge_disk.proofs.Moments.{untouched_refl}
use Rattle.spool_log.specs.State.{view}
use Rattle.spool_move.proofs.Results.{is_err}
use Rattle.bridge_restore.specs.declared.fault.StoreFault.{StoreFault}
use Rattle.bridge_restore.specs.Into.{StoresSeen, TellsTwo, FailsDisk}
use Rattle.bridge_restore.specs.Told.{told}
use Rattle.bridge_restore.proofs.Ending.{seen_stops, seen_stores, seen_tells, stored_tells, tells_later}
use Rattle.bridge_restore.proofs.into.store_seen.Goals as goal

pub returns-in_err-see_fresh-clause-stored : goal.returns-in_err-see_fresh-clause-stored
returns-in_err-see_fresh-clause-stored g c = λ slots u tells tells' known held.
    let old = view c.args.target.now.memory c.args.target.now.doubt (g.E.Disk.moment c.args.target.now.disk) in
    let mid = view c.see_fresh.new.target.memory c.see_fresh.new.target.doubt (g.E.Disk.moment c.see_fresh.new.target.disk) in
    let kept = c.in_err-see_fresh.ensures.kept u tells' held in
    let fault = c.in_err-see_fresh.field-0.0 in
    subst (λ (r : Result (Unit {0}) StoreFault). StoresSeen c.args.tag u (told c.args.tag slots) r old mid) (sym (is_err c.from_residual.result fault c.from_residual.ensures.1))
    (seen_stops c.args.tag u (told c.args.tag slots) old mid mid held kept.0 kept.1 fault (c.in_err-see_fresh.ensures.seen u tells' held))

pub returns-in_err-see_fresh-clause-disks : goal.returns-in_err-see_fresh-clause-disks
returns-in_err-see_fresh-clause-disks g c =
    let from = g.D.Disk.moment c.args.disk.now in
    let onto = g.E.Disk.moment c.args.target.now.disk in
    let onto' = g.E.Disk.moment c.see_fresh.new.target.disk in
    let fault = c.in_err-see_fresh.field-0.0 in
    subst (λ (r : Result (Unit {0}) StoreFault). TellsTwo (FailsDisk r) from from onto onto') (sym (is_err c.from_residual.result fault c.from_residual.ensures.1))
    (seen_tells fault from onto onto' c.in_err-see_fresh.ensures.known c.in_err-see_fresh.ensures.calls)

pub returns-in_err-see_fresh-clause-told : goal.returns-in_err-see_fresh-clause-told
returns-in_err-see_fresh-clause-told g c = λ tells. untouched_refl _

pub returns-clause-disks : goal.returns-clause-disks
returns-clause-disks g c =
    tells_later _ _ _ _ _ _ (calls_as _ ⊥ _ _ c.in_ok-see_fresh.ensures.calls (λ f. absurd f) (λ h. absurd (cc h)))
    (stored_tells c.store_slots.result _ _ _ _ c.store_slots.ensures.known c.store_slots.ensures.calls c.store_slots.ensures.target_calls)

pub returns-clause-stored : goal.returns-clause-stored
returns-clause-stored g c = λ slots u tells tells' known held.
    let old = view c.args.target.now.memory c.args.target.now.doubt (g.E.Disk.moment c.args.target.now.disk) in
    let mid = view c.see_fresh.new.target.memory c.see_fresh.new.target.doubt (g.E.Disk.moment c.see_fresh.new.target.disk) in
    let new = view c.store_slots.new.target.memory c.store_slots.new.target.doubt (g.E.Disk.moment c.store_slots.new.target.disk) in
    let kept = c.in_ok-see_fresh.ensures.kept u tells' held in
    seen_stores c.args.tag u (told c.args.tag slots) old mid new held kept.0 kept.1 c.store_slots.result c.store_slots.ensures.known (c.in_ok-see_fresh.ensures.seen u tells' held)
    (c.store_slots.ensures.stored slots u tells tells' known kept.0)
