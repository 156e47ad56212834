use Rattle.std.proofs.Common.{◌∷◌, [], take, subst}
use Rattle.std.specs.Prelude.{Result}
use Rattle.spool_answers.specs.declared.receipt.Receipt.{Receipt}
use Rattle.spool_faults.specs.declared.fault.TakeFault.{TakeFault}
use Rattle.desk_access.specs.Call.{takes}
use Rattle.conn_serve.proofs.Answering.{front_may}
use Rattle.conn_serve.proofs.connection.take_front.Goals as goal

pub returns-clause-may : goal.returns-clause-may
returns-clause-may g c =
    let call = c.take_front-front in
    let entries = c.args.entries.items in
    let connection = c.args.connection.now in
    front_may (g.A.Access.may_take call.new.self) connection.number connection.taken call.result.count entries call.result.answer call.ensures.front.1 c.requires.next
    (λ receipt is sure own. g.met.A.Access.may_take_more _ _ _ connection.number connection.taken
    (subst (λ (r : Result Receipt TakeFault). g.A.Access.ran c.args.access.now (takes (take call.result.count entries) r ∷ []) call.new.self) is call.ensures.ran) sure own c.requires.may)
