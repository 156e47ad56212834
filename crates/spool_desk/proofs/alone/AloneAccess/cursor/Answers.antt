use Rattle.std.proofs.Common.{[], arith}
use Rattle.spool_log.specs.State.{view}
use Rattle.spool_desk.proofs.Making.{told}
use Rattle.spool_desk.proofs.alone.AloneAccess.cursor.Goals as goal

pub returns-clause-runs : goal.returns-clause-runs
returns-clause-runs g c =
    let a = c.args.self.now in
    let now = c.max-self.result in
    let spool = view a.desk.spool.memory a.desk.spool.doubt (g.D.Disk.moment a.desk.spool.disk) in
    told g.D.Disk.tells spool a.desk.ids a.met a.end_told a.cursor_told a.end_told now (g.met.D.Disk.lawful a.desk.spool.disk) (omega arith) (omega (arith, c.max-self.ensures))
    (λ x tells at. (at.end_known, omega (arith, c.max-self.ensures, c.cursor.ensures, at.cursor_known, at.spool.knows.cursor)))

pub returns-clause-ran : goal.returns-clause-ran
returns-clause-ran g c = record { records = []; by = tt; runs = returns-clause-runs g c }
