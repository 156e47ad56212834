use Rattle.std.proofs.Common.{◌∙◌}
use Rattle.spool_desk.specs.Alone.{alone_at}
use Rattle.spool_desk.specs.Runs.{ran_none}
use Rattle.desk_access.proofs.Steps.{goes_later}
use Rattle.spool_desk.proofs.alone.AloneAccess.run.Goals as goal

pub returns-clause-ran : goal.returns-clause-ran
returns-clause-ran g c = ran_none g.D.Disk.tells (alone_at c.args.self.now) (g.met.D.Disk.lawful c.args.self.now.desk.spool.disk)

pub returns-clause-seen : goal.returns-clause-seen
returns-clause-seen g c = λ x journal seen. c.run.ensures ∙ seen.here.spool.knows.run ∙ (goes_later x seen.found journal seen.rules seen.goes).1.run
