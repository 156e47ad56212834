use Rattle.std.proofs.Common.{refl, sym, subst}
use Rattle.hec_ids.specs.Table.{Table}
use Rattle.hec_ids.specs.Rows.{Forgets}
use Rattle.desk_access.specs.Call.{forgets}
use Rattle.spool_desk.specs.Alone.{alone_at}
use Rattle.spool_desk.proofs.Making.{idle_makes, ran_of}
use Rattle.spool_desk.proofs.alone.AloneAccess.forget.Goals as goal

pub returns-clause-makes : goal.returns-clause-makes
returns-clause-makes g c =
    let a = c.args.self.now in
    let ids = c.forget.new.self in
    idle_makes g.D.Disk.tells (alone_at a) (forgets c.args.channel c.args.id c.forget.result) ids c.standing.result c.standing.ensures (g.met.D.Disk.lawful a.desk.spool.disk) refl
    (λ x at leaving. (ids, subst (λ (t : Table). Forgets t c.args.channel c.args.id c.forget.result ids) (sym at.ids) c.forget.ensures, leaving))

pub returns-clause-ran : goal.returns-clause-ran
returns-clause-ran g c = ran_of _ _ _ _ (returns-clause-makes g c)
