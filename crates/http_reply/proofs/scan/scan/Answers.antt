-- What has been read of some bytes, reply by reply.
use Rattle.std.proofs.Common.{◌≡◌, ◌+◌, ◌++◌, ◌∙◌, ℕ, List, drop, refl, ap, subst, arith}
use Rattle.std.specs.Prelude.{None}
use Rattle.http_edge.specs.declared.stage.Stage.TheVariants.{Plain}
use Rattle.http_edge.proofs.NextLaws.{window}
use Rattle.http_reply.specs.declared.next.Next.TheVariants.{Whole, Part, Open, Bad}
use Rattle.http_reply.specs.declared.reply.HttpReply.{HttpReply}
use Rattle.http_reply.specs.ReplyStream.{given_of}
use Rattle.http_reply.specs.Scanning.{IsLeft}
use Rattle.http_reply.proofs.StreamLaws.{next_at, replies_more, scans_left, scans_bad, left_open, left_moved}
use Rattle.http_reply.proofs.scan.scan.Goals as goal

pub replies-preserved : goal.replies-preserved
replies-preserved c =
    let l = c.replies in
    let w = c.in-Whole in
    let b = c.args.buf.now in
    let at = c.args.base + l.from in
    let reply : List ℕ → HttpReply = λ v. record { status = w.status; body = v; at = at } in
    let x = next_at b l.from c.in_ok-status.field-0 (Whole w.status w.body w.used) w.is c.in_ok-status.ensures in
    replies_more c.args.base b l.replies.items l.from w.used (reply w.body.items) l.invariant (x.0 at) refl x.2 c.give.new.replies.items
    (c.in_ok-give-in-Whole.ensures ∙ ap (λ (v : List ℕ). l.replies.items ++ given_of (reply v)) c.of.ensures)

pub returns-in-Part : goal.returns-in-Part
returns-in-Part c =
    let l = c.replies in
    let b = c.args.buf.now in
    let p = c.in-Part.part in
    let x = next_at b l.from c.in_ok-status.field-0 (Part p) c.in-Part.is c.in_ok-status.ensures in
    scans_left c.args.base b l.replies.items l.from _ p.stage p.body.items p.used c.in_ok-unread-in-Part.unread.items
    l.invariant x.1
    (c.in_ok-unread-in-Part.ensures.items ∙ window b (l.from + p.used))
    (left_moved b l.from _ p.stage p.body.items p.used x.0)

pub returns-in-Open : goal.returns-in-Open
returns-in-Open c =
    let l = c.replies in
    let b = c.args.buf.now in
    let o = next_at b l.from c.in_ok-status.field-0 Open c.in-Open.is c.in_ok-status.ensures in
    let none : l.from ≡ l.from + 0 = omega arith in
    let here = c.in_ok-unread-in-Open.ensures.items ∙ window b l.from ∙ ap (λ (n : ℕ). drop n b) none in
    scans_left c.args.base b l.replies.items l.from None (Plain 0) c.new.result.items 0 c.in_ok-unread-in-Open.unread.items
    l.invariant (omega arith) here
    (subst (λ (n : ℕ). IsLeft (drop l.from b) None (Plain 0) c.new.result.items 0 (drop n b)) none (left_open (drop l.from b) c.new.result.items c.new.ensures.items o.0 o.1))

pub returns-in-Bad : goal.returns-in-Bad
returns-in-Bad c =
    let l = c.replies in
    let b = c.args.buf.now in
    let w = c.in-Bad in
    let x = next_at b l.from c.in_ok-status.field-0 (Bad w.why w.at) w.is c.in_ok-status.ensures in
    scans_bad c.args.base b l.replies.items l.from w.at w.why (c.args.base + (l.from + w.at)) c.cleared-left.result
    l.invariant x.0 refl c.cleared-left.ensures
