use Rattle.std.proofs.Common.{inl}
use Rattle.edge_disk.proofs.Moments.{started}
use Rattle.spool_log.specs.Making.Format.{IsFormatStep}
use Rattle.spool_log.proofs.making.formatting.format.Goals as goal

pub returns-then-have-want-clause-any_moment : goal.returns-then-have-want-clause-any_moment
returns-then-have-want-clause-any_moment g c = λ tells.
    started (IsFormatStep c.args.slots c.args.size (g.D.Disk.moment c.args.disk.now)) _ (g.met.D.Disk.lawful c.args.disk.now tells) (λ d i. inl i)
