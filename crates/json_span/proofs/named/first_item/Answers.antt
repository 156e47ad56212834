use Rattle.json_span.proofs.NamedLaws.{brace_after}
use Rattle.json_span.proofs.named.first_item.Goals as goal

pub returns-then-stands_at : goal.returns-then-stands_at
returns-then-stands_at c =
    let n = c.after_space-next in
    let p = c.stands_at.ensures.0 c.if-stands_at.true in
    brace_after c.args.bytes.now c.args.at n.result n.ensures.spaces p.0 p.1
