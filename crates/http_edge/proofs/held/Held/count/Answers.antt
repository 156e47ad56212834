-- What is counted is within the bound.
use Rattle.std.proofs.Common.{◌≡◌, ◌∙◌, length, arith}
use Rattle.http_edge.proofs.GiveLaws.{beside_short}
use Rattle.http_edge.proofs.held.Held.count.Goals as goal

pub overflow_add-result : goal.overflow_add-result
overflow_add-result c =
    let h = c.args.self.now in
    let b = beside_short h h.unread.items c.requires in
    let n = c.requires.bound in
    omega (arith, b.0, n)

pub overflow_sub-result : goal.overflow_sub-result
overflow_sub-result c = let h = c.args.self.now in (beside_short h h.unread.items c.requires).1

pub returns-clause-bound : goal.returns-clause-bound
returns-clause-bound c =
    let h = c.args.self.now in
    let b = beside_short h h.unread.items c.requires in
    let n = c.requires.bound in
    let l : c.len.result ≡ length h.bytes.items = c.len.ensures ∙ h.bytes.ok.0 in
    let m : c.len-2.result ≡ length h.unread.items = c.len-2.ensures ∙ h.unread.ok.0 in
    omega (arith, b.1, n, l, m)
