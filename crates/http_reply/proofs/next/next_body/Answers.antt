-- What is after a whole head.
use Rattle.std.proofs.Common.{◌≤◌, ℕ, length, sym, subst}
use Rattle.http_edge.specs.declared.gather.Ending.TheVariants.{Whole, Open, Bad}
use Rattle.http_reply.specs.ReplyStream.{IsFault}
use Rattle.http_reply.proofs.NextLaws.{gathers_at, next_whole, next_part, next_bad}
use Rattle.http_reply.proofs.next.next_body.Goals as goal

pub returns-in-Whole : goal.returns-in-Whole
returns-in-Whole c =
    let o = c.args.opening in
    let x = c.in_ok-bytes.field-0 in
    next_whole c.args.buf.now o x.bytes.items x.used c.requires
    (gathers_at o.stage c.args.buf.now x.bytes.items o.len x.used x.end Whole c.in-Whole.is c.in_ok-bytes.ensures)

pub returns-in-Open : goal.returns-in-Open
returns-in-Open c =
    let o = c.args.opening in
    let x = c.in_ok-bytes.field-0 in
    next_part c.args.buf.now o x.bytes.items x.used c.in-Open.stage c.requires
    (gathers_at o.stage c.args.buf.now x.bytes.items o.len x.used x.end (Open c.in-Open.stage) c.in-Open.is c.in_ok-bytes.ensures)

pub returns-in-Bad : goal.returns-in-Bad
returns-in-Bad c =
    let o = c.args.opening in
    let x = c.in_ok-bytes.field-0 in
    let b = c.args.buf.now in
    let bad = next_bad b o x.bytes.items x.used c.in-Bad.why c.requires
    (gathers_at o.stage b x.bytes.items o.len x.used x.end (Bad c.in-Bad.why) c.in-Bad.is c.in_ok-bytes.ensures) in
    subst (λ (at : ℕ). IsFault b c.in-Bad.why at × (at ≤ length b)) (sym c.place.ensures) bad
