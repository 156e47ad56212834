-- What the reader holds after the end of a reply.
use Rattle.std.proofs.Common.{◌≡◌, ◌++◌, ◌∙◌, ◌+◌, ℕ, List, Vec, Global, drop, sym, subst, ap, refl}
use Rattle.std.specs.Prelude.{Some}
use Rattle.http_reply.specs.declared.reply.HttpReply.{HttpReply}
use Rattle.http_reply.specs.ReplyStream.{given_of}
use Rattle.http_reply.specs.Reading.{Reading}
use Rattle.http_reply.specs.Keeping.{FeedsAll}
use Rattle.http_reply.specs.Scanning.{Scans}
use Rattle.http_edge.proofs.NextLaws.{window}
use Rattle.http_reply.proofs.FeedLaws.{after_feeds, scan_head}
use Rattle.http_reply.proofs.reader.ReplyReader.read_after.Goals as goal

pub returns-clause-feeds : goal.returns-clause-feeds
returns-clause-feeds c =
    let i = c.self.inside in
    let x = c.in_ok-replies.field-0 in
    let all = c.args.all.now in
    let used = c.args.used in
    let status = c.in-Some.status in
    let old : Reading = record { waiting = i.waiting.items; at = i.at; begun = i.begun; stage = i.stage; body = i.body.items; read = i.read; unread = i.unread.items; fault = i.fault } in
    let q = rw (← c.self.view_is) at c.requires.begun in
    let g = rw (← c.self.view_is) at c.requires.ends in
    let base = i.at + (i.read + used) in
    let begun : i.begun ≡ Some status = sym c.take.ensures.value ∙ c.in-Some.is in
    let s : Scans base (drop used all) x = subst (λ (v : List ℕ). Scans base v x) (window all used) c.in_ok-replies.ensures in
    let body : c.replace-body.result.items ≡ i.body.items ++ c.args.last.now = ap (λ (v : Vec ℕ Global). v.items) c.replace-body.ensures.value ∙ c.in_ok-extend_from_slice.ensures.items in
    let reply : List ℕ → HttpReply = λ v. record { status = status; body = v; at = i.at } in
    let waiting = c.append_reserved.ensures ∙ ap (λ (v : List HttpReply). v ++ x.replies.items) (c.give_reserved.ensures.items ∙ (λ j. c.in_ok-reserve.ensures.items j ++ given_of (reply ((c.of.ensures ∙ body) j)))) in
    subst (λ (r : Reading). FeedsAll r all c.settle.result c.settle.new.self) c.self.view_is
    (after_feeds old all status c.args.last.now used base x c.append_reserved.new.waiting.items c.settle.new.self c.settle.result q.0 begun g refl s waiting c.settle.ensures.state c.settle.ensures.told)

pub settle-requires-clause-head : goal.settle-requires-clause-head
settle-requires-clause-head c = scan_head _ _ c.in_ok-replies.field-0 c.in_ok-replies.ensures
