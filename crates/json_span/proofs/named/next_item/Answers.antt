use Rattle.std.proofs.Common.{◌≡◌, true}
use Rattle.json_span.proofs.NamedLaws.{brace_after, nothing_after}
use Rattle.json_span.proofs.Parts.{separator_back}
use Rattle.json_span.proofs.named.next_item.Goals as goal

pub returns-then-stands_at-clause-some : goal.returns-then-stands_at-clause-some
returns-then-stands_at-clause-some c =
    let n = c.after_space-next in
    let p = c.stands_at.ensures.0 c.if-stands_at.true in
    (separator_back 44 c.args.bytes.now c.args.at n.result c.after_space.result n.ensures.spaces p.1 c.after_space.ensures.spaces, c.after_space.ensures.stops)

pub returns-then-stands_at-2-clause-some : goal.returns-then-stands_at-2-clause-some
returns-then-stands_at-2-clause-some c =
    let n = c.after_space-next in
    let p = c.stands_at-else-stands_at.ensures.0 c.if-stands_at-2.true in
    brace_after c.args.bytes.now c.args.at n.result n.ensures.spaces p.0 p.1

pub returns-else-stands_at-2-clause-none : goal.returns-else-stands_at-2-clause-none
returns-else-stands_at-2-clause-none c = λ end s.
    let n = c.after_space-next in
    nothing_after c.args.bytes.now c.args.at n.result end n.ensures.spaces n.ensures.stops
    (λ p. let t : c.stands_at.result ≡ true = c.stands_at.ensures.1 p in absurd cc)
    (λ p. let t : c.stands_at-else-stands_at.result ≡ true = c.stands_at-else-stands_at.ensures.1 p in absurd cc)
    s
