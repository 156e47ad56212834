use Rattle.std.proofs.Common.{[], arith}
use Rattle.spool_log.specs.State.{view}
use Rattle.spool_desk.specs.Alone.{alone_at}
use Rattle.spool_desk.proofs.Leading.{end_is}
use Rattle.spool_desk.proofs.Making.{told}
use Rattle.spool_desk.proofs.alone.AloneAccess.end.Goals as goal

pub returns-clause-runs : goal.returns-clause-runs
returns-clause-runs g c =
    let a = c.args.self.now in
    let now = c.max-self.result in
    let spool = view a.desk.spool.memory a.desk.spool.doubt (g.D.Disk.moment a.desk.spool.disk) in
    told g.D.Disk.tells spool a.desk.ids a.met a.end_told a.cursor_told now a.cursor_told (g.met.D.Disk.lawful a.desk.spool.disk) (omega (arith, c.max-self.ensures)) (omega arith)
    (λ x tells at. (omega (arith, c.max-self.ensures, c.end.ensures.end, at.end_known, end_is x (alone_at a) at), at.cursor_known))

pub returns-clause-ran : goal.returns-clause-ran
returns-clause-ran g c = record { records = []; by = tt; runs = returns-clause-runs g c }

pub returns-clause-limit : goal.returns-clause-limit
returns-clause-limit g c = omega (arith, c.max-self.ensures, c.end.ensures.most, c.args.self.now.limit)

pub returns-clause-exact : goal.returns-clause-exact
returns-clause-exact g c = λ x journal seen. (seen.found, seen.goes, omega (arith, c.max-self.ensures, c.end.ensures.end, seen.here.end_known, end_is seen.found (alone_at c.args.self.now) seen.here))

pub returns-clause-seen : goal.returns-clause-seen
returns-clause-seen g c = λ x journal seen. (seen.found, seen.goes, omega (arith, c.max-self.ensures, c.end.ensures.end, end_is seen.found (alone_at c.args.self.now) seen.here))
