use Rattle.std.proofs.Common.{[], ◌∷◌}
use Rattle.desk_access.specs.Call.{takes, settles}
use Rattle.std.specs.Prelude.{Ok}
use Rattle.conn_serve.proofs.HecActing.{may_same, none_sure, none_conn}
use Rattle.conn_serve.proofs.hec.ids.take_and_settle.Goals as goal

pub returns-in-Ok-clause-stored : goal.returns-in-Ok-clause-stored
returns-in-Ok-clause-stored g c =
    (c.in-Ok.field-0, c.settle.result, g.met.A.Access.ran_more _ _ _ (takes c.args.entries.now (Ok c.in-Ok.field-0) ∷ []) (settles c.args.channel c.args.id c.settle.result ∷ []) c.in-Ok.ensures.ran c.settle.ensures)

pub returns-in-Ok-clause-may : goal.returns-in-Ok-clause-may
returns-in-Ok-clause-may g c =
    let conn = c.args.connection.now.number in
    may_same (g.A.Access.may_take c.settle.new.self) conn _ (g.met.A.Access.may_take_more _ _ _ conn _ c.settle.ensures (none_sure _ tt) none_conn c.in-Ok.ensures.may)
