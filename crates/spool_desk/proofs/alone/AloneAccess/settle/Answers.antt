use Rattle.std.proofs.Common.{refl, sym, subst}
use Rattle.hec_ids.specs.Table.{Table}
use Rattle.hec_ids.specs.Rows.{Settles}
use Rattle.desk_access.specs.Call.{settles}
use Rattle.spool_desk.specs.Alone.{alone_at}
use Rattle.spool_desk.proofs.Making.{idle_makes, ran_of}
use Rattle.spool_desk.proofs.alone.AloneAccess.settle.Goals as goal

pub returns-clause-makes : goal.returns-clause-makes
returns-clause-makes g c =
    let a = c.args.self.now in
    let ids = c.settle.new.self in
    idle_makes g.D.Disk.tells (alone_at a) (settles c.args.channel c.args.id c.settle.result) ids c.standing.result c.standing.ensures (g.met.D.Disk.lawful a.desk.spool.disk) refl
    (λ x at leaving. (ids, subst (λ (t : Table). Settles t c.args.channel c.args.id c.settle.result ids) (sym at.ids) c.settle.ensures, leaving))

pub returns-clause-ran : goal.returns-clause-ran
returns-clause-ran g c = ran_of _ _ _ _ (returns-clause-makes g c)
