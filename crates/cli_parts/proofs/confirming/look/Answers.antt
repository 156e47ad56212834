use Rattle.std.proofs.Common.{sym, subst, []}
use Rattle.edge_disk.specs.Disk.{LeavesOnly}
use Rattle.bridge_parts.proofs.Numbers.{pending_seen}
use Rattle.cli_parts.proofs.confirming.look.Goals as goal

pub returns-in-Ok-clause-counted : goal.returns-in-Ok-clause-counted
returns-in-Ok-clause-counted g c = λ told.
    let opened = c.in-Ok.ensures.opened told in
    (opened.0, opened.1.stood, rw c.pending_count.ensures (pending_seen opened.0 [] _ opened.1.reached))

pub returns-in-Ok-clause-kept : goal.returns-in-Ok-clause-kept
returns-in-Ok-clause-kept g c = λ told.
    let m = g.D.Disk.moment c.args.disk in
    subst (λ disk. LeavesOnly m.image m (g.D.Disk.moment disk)) (sym c.into_disk.ensures) (c.in-Ok.ensures.any_moment told)
