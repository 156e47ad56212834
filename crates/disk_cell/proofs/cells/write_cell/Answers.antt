use Rattle.std.proofs.Common.{ℕ, List, sym, subst}
use Rattle.edge_disk.specs.Gate.{GoesBehind}
use Rattle.edge_disk.specs.Leave.{Lets}
use Rattle.disk_cell.proofs.cells.write_cell.Goals as goal

pub write_behind-requires-clause-leave : goal.write_behind-requires-clause-leave
write_behind-requires-clause-leave g c =
    subst (λ (piece : List ℕ). Lets g.D.Disk.tells g.D.Disk.moment g.D.Disk.may_tear (GoesBehind (g.D.Disk.moment c.args.disk.now) c.args.gate piece)) (sym c.put_body-len.ensures.text) c.requires.leave
