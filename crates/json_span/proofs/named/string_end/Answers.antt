use Rattle.std.proofs.Common.{◌≡◌, true, refl, arith}
use Rattle.json_span.proofs.MemberLaws.{string_byte}
use Rattle.json_span.proofs.NumberLaws.{string_there}
use Rattle.json_span.proofs.StringLaws.{string_first}
use Rattle.json_span.proofs.named.string_end.Goals as goal

pub returns-then-not-stands_at-clause-none : goal.returns-then-not-stands_at-clause-none
returns-then-not-stands_at-clause-none c = λ end s.
    let q = string_byte c.args.bytes.now c.args.at end s in
    let t : c.stands_at.result ≡ true = c.stands_at.ensures.1 (omega (arith, q.0, s.bound), q.1) in
    absurd cc

pub returns-in-Ok-clause-some : goal.returns-in-Ok-clause-some
returns-in-Ok-clause-some c =
    let p = c.stands_at.ensures.0 c.if-not-stands_at.false in
    string_first 127 c.args.bytes.now c.args.at c.in-Ok.span ((c.in-Ok.ensures.ok c.in-Ok.span).0 refl) p.0 p.1

pub returns-in-Err-clause-none : goal.returns-in-Err-clause-none
returns-in-Err-clause-none c = λ end s.
    let e = (c.in-Err.ensures.ok (record { start = c.args.at; end = end })).1 (string_there 127 c.args.bytes.now c.args.at end s) in
    cc
