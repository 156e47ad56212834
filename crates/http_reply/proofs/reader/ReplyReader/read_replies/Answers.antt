-- What the reader holds after the replies of a piece.
use Rattle.std.proofs.Common.{subst}
use Rattle.http_reply.specs.Reading.{Reading}
use Rattle.http_reply.specs.Keeping.{FeedsAll}
use Rattle.http_reply.proofs.FeedLaws.{begin_feeds, scan_head}
use Rattle.http_reply.proofs.reader.ReplyReader.read_replies.Goals as goal

pub returns-clause-feeds : goal.returns-clause-feeds
returns-clause-feeds c =
    let i = c.self.inside in
    let old : Reading = record { waiting = i.waiting.items; at = i.at; begun = i.begun; stage = i.stage; body = i.body.items; read = i.read; unread = i.unread.items; fault = i.fault } in
    let e = rw (← c.self.view_is) at c.requires.fault in
    let b = rw (← c.self.view_is) at c.requires.begun in
    subst (λ (r : Reading). FeedsAll r c.args.all.now c.settle.result c.settle.new.self) c.self.view_is
    (begin_feeds old c.args.all.now c.in_ok-replies.field-0 c.append.new.self.items c.settle.new.self c.settle.result e b c.in_ok-replies.ensures c.in_ok-append.ensures.items c.settle.ensures.state c.settle.ensures.told)

pub settle-requires-clause-head : goal.settle-requires-clause-head
settle-requires-clause-head c = scan_head _ _ c.in_ok-replies.field-0 c.in_ok-replies.ensures
