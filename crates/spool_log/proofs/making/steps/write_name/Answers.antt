use Rattle.edge_disk.proofs.Moments.{untouched}
use Rattle.spool_log.proofs.Formats.Naming.{name_written}
use Rattle.spool_log.proofs.making.steps.write_name.Goals as goal

pub returns-in_err-write_at-clause-any_moment : goal.returns-in_err-write_at-clause-any_moment
returns-in_err-write_at-clause-any_moment g c = λ tells.
    name_written _ _ (g.met.D.Disk.lawful c.args.disk.now tells) c.requires.room (c.requires.settled tells) (c.requires.none tells) (c.write_at.ensures.told tells)

pub returns-clause-any_moment : goal.returns-clause-any_moment
returns-clause-any_moment g c = λ tells.
    untouched _ _ _ _ (name_written _ _ (g.met.D.Disk.lawful c.args.disk.now tells) c.requires.room (c.requires.settled tells) (c.requires.none tells) (c.write_at.ensures.told tells)) (c.sync.ensures.told tells)
