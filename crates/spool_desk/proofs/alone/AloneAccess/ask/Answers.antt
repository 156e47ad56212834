use Rattle.std.proofs.Common.{refl, sym, subst}
use Rattle.hec_ids.specs.Table.{Table}
use Rattle.hec_ids.specs.Rows.{Asks}
use Rattle.desk_access.specs.Call.{asks}
use Rattle.spool_desk.specs.Alone.{alone_at}
use Rattle.spool_desk.proofs.Making.{idle_makes, ran_of}
use Rattle.spool_desk.proofs.alone.AloneAccess.ask.Goals as goal

pub returns-clause-makes : goal.returns-clause-makes
returns-clause-makes g c =
    let a = c.args.self.now in
    let ids = c.ask.new.self in
    idle_makes g.D.Disk.tells (alone_at a) (asks c.args.channel c.args.ids.now c.ask.new.known) ids c.standing.result c.standing.ensures (g.met.D.Disk.lawful a.desk.spool.disk) refl
    (λ x at leaving. (ids, subst (λ (t : Table). Asks t c.args.channel c.args.ids.now c.ask.new.known ids) (sym at.ids) c.ask.ensures, leaving))

pub returns-clause-ran : goal.returns-clause-ran
returns-clause-ran g c = ran_of _ _ _ _ (returns-clause-makes g c)
