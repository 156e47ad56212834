use Rattle.std.proofs.Common.{◌∙◌, refl, sym, ap, subst}
use Rattle.std.specs.Prelude.{Some}
use Rattle.known_numbers.specs.Numbers.{count_of}
use Rattle.hec_ids.specs.Table.{Table}
use Rattle.desk_access.specs.Call.{counts}
use Rattle.desk_access.specs.Desk.{Leaving, desk_of}
use Rattle.spool_desk.specs.Alone.{alone_at}
use Rattle.spool_desk.proofs.Making.{idle_makes, ran_of}
use Rattle.spool_desk.proofs.alone.AloneAccess.known_count.Goals as goal

pub returns-clause-makes : goal.returns-clause-makes
returns-clause-makes g c =
    let a = c.args.self.now in
    idle_makes g.D.Disk.tells (alone_at a) (counts c.count_known.result) a.desk.ids c.standing.result c.standing.ensures (g.met.D.Disk.lawful a.desk.spool.disk) refl
    (λ x at leaving. (c.count_known.ensures ∙ ap count_of (c.known.ensures ∙ at.spool.knows.known), subst (λ (t : Table). Leaving x (Some c.standing.result) t (desk_of x.spool x.doubt a.desk.ids)) (sym at.ids) leaving))

pub returns-clause-ran : goal.returns-clause-ran
returns-clause-ran g c = ran_of _ _ _ _ (returns-clause-makes g c)
