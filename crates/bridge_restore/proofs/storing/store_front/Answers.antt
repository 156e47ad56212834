use Rattle.std.proofs.Common.{◌∙◌}
use Rattle.edge_disk.proofs.Calls.{calls_as}
use Rattle.bridge_rescue.proofs.Fronting.{front_held, never_fails, same_size}
use Rattle.bridge_restore.proofs.Joining.{unread_first}
use Rattle.bridge_restore.proofs.storing.store_front.Goals as goal

pub returns-clause-stored : goal.returns-clause-stored
returns-clause-stored g c = λ segment t tells tells' known held.
    let bytes = c.in-Ok.held.bytes.items in
    let same = same_size c.args.slot.now c.placed-front.result 0 _ _ (c.len.ensures ∙ c.in-Ok.ensures.size) c.placed-front.ensures in
    c.store_slot.ensures.stored segment t tt tells' (front_held c.args.slot.now c.placed-front.result segment (g.D.Disk.moment c.args.disk.now).reads bytes known (c.in-Ok.ensures.bytes tells) same) held

pub returns-clause-calls : goal.returns-clause-calls
returns-clause-calls g c = calls_as _ _ _ _ c.in-Ok.ensures.calls (λ failed. absurd (never_fails _ _ _ c.store_slot.ensures.calls failed)) (λ is. absurd (cc))

pub returns-in-Err-clause-stored : goal.returns-in-Err-clause-stored
returns-in-Err-clause-stored g c = λ segment t tells tells' known held.
    unread_first t _ _ c.in-Err.fault held (g.met.E.Disk.lawful c.args.target.now.disk tells') c.in-Err.ensures.known
