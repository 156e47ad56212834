use Rattle.std.proofs.Common.{◌≡◌, arith}
use Rattle.json_span.proofs.MemberLaws.{item_parts, next_found, comma_is_left, brace_is_left, comma_ahead, brace_ahead}
use Rattle.json_span.proofs.object.after_member.Goals as goal

pub bounds-bytes-next : goal.bounds-bytes-next
bounds-bytes-next c =
    let n = c.after_space-next in
    let m = item_parts c.args.bytes.now c.args.at c.requires.0 c.requires.1 in
    let e : n.result ≡ m.next = next_found c.args.bytes.now c.args.at c.requires.0 n.result m n.ensures.spaces n.ensures.stops in
    omega (arith, e, m.inside)

pub returns-then-bytes-next-eq44-clause-left : goal.returns-then-bytes-next-eq44-clause-left
returns-then-bytes-next-eq44-clause-left c = λ end s. let n = c.after_space-next in let r = c.after_space in comma_is_left c.args.bytes.now c.args.at n.result r.result end s n.ensures.spaces n.ensures.stops c.if-bytes-next-eq44.true r.ensures.spaces r.ensures.stops

pub returns-then-bytes-next-eq44-clause-ahead : goal.returns-then-bytes-next-eq44-clause-ahead
returns-then-bytes-next-eq44-clause-ahead c = λ end s. let n = c.after_space-next in let r = c.after_space in comma_ahead c.args.bytes.now c.args.at n.result r.result end s n.ensures.spaces n.ensures.stops c.if-bytes-next-eq44.true r.ensures.spaces r.ensures.stops

pub returns-else-bytes-next-eq44-clause-left : goal.returns-else-bytes-next-eq44-clause-left
returns-else-bytes-next-eq44-clause-left c = λ end s. let n = c.after_space-next in brace_is_left c.args.bytes.now c.args.at n.result end s n.ensures.spaces n.ensures.stops c.if-bytes-next-eq44.false

pub returns-else-bytes-next-eq44-clause-ahead : goal.returns-else-bytes-next-eq44-clause-ahead
returns-else-bytes-next-eq44-clause-ahead c = λ end s. let n = c.after_space-next in brace_ahead c.args.bytes.now c.args.at n.result end s n.ensures.spaces n.ensures.stops c.if-bytes-next-eq44.false
