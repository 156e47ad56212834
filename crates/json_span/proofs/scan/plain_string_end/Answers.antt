use Rattle.json_span.proofs.PlainStrings.{plain_string}
use Rattle.json_span.proofs.scan.plain_string_end.Goals as goal

pub returns-then-stands_at : goal.returns-then-stands_at
returns-then-stands_at c =
    let p = c.stands_at.ensures.0 c.if-not-stands_at.false in
    let r = c.after_plain-end in
    let q = c.stands_at-2.ensures.0 c.if-stands_at.true in
    plain_string c.args.bytes.now c.args.at r.result p.1 r.ensures.order q.0 r.ensures.plain q.1
