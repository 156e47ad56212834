use Rattle.std.proofs.Common.{subst}
use Rattle.http_edge.specs.declared.item.ItemRef.{ItemRef}
use Rattle.http_edge.specs.declared.request.HttpItem.TheVariants.{Request}
use Rattle.http_edge.specs.Lending.{GivesItem, item_of}
use Rattle.http_edge.specs.Loan.{Gives}
use Rattle.http_edge.specs.Waits.{with_body}
use Rattle.conn_serve.proofs.hec.intake.next_held.Goals as goal

pub returns-in-Ok-clause-gives : goal.returns-in-Ok-clause-gives
returns-in-Ok-clause-gives c =
    let after = c.next.follows.lender-at-none in
    let gives = subst (λ lent. Gives c.args.window.now lent after) c.in-Some.is c.next.follows.holds-at-none in
    let request = subst (λ (i : ItemRef). GivesItem c.args.window.now (item_of i) after) c.in-Request.is gives in
    (Request (with_body c.in-Request.head.now c.in-Request.body.now), request, (c.in-Ok.ensures.act, c.closes-closing.ensures c.in-Request.body.now))
