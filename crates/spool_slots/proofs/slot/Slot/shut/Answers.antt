use Rattle.std.proofs.Common.{arith}
use Rattle.edge_disk.proofs.Moments.{weaker}
use Rattle.spool_slots.proofs.Steps.{shut_step}
use Rattle.spool_slots.proofs.slot.Slot.shut.Goals as goal

pub returns-clause-any_moment : goal.returns-clause-any_moment
returns-clause-any_moment g c = λ segment tells holds.
    let lawful = g.met.D.Disk.lawful c.args.disk.now tells in
    let slot = c.args.self in
    weaker _ _ _ _ (c.close_gate.ensures.any_moment tells) (λ b from.
    (from.0, from.1, shut_step slot.at slot.size segment from.0 b (omega (arith, c.requires.place, lawful.image_size from.0 from.1)) (omega arith) (holds from.0 from.1) from.2))
