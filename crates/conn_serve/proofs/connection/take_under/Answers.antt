use Rattle.std.proofs.Common.{refl}
use Rattle.conn_serve.proofs.LumberActing.{may_behind, group_conn, group_sure}
use Rattle.conn_serve.proofs.connection.take_under.Goals as goal

pub returns-clause-may : goal.returns-clause-may
returns-clause-may g c =
    let may = g.A.Access.may_take c.take.new.self in
    let conn = c.args.connection.now.number in
    may_behind may conn c.args.connection.now.taken _ c.args.entries.now c.in_ok-receipt.receipt
    (g.met.A.Access.may_take_more _ _ _ conn c.args.connection.now.taken c.in_ok-receipt.ensures.ran (group_sure c.args.entries.now c.in_ok-receipt.receipt) (group_conn conn c.args.connection.now.taken c.args.entries.now c.in_ok-receipt.receipt c.requires.next) c.requires.may) refl
