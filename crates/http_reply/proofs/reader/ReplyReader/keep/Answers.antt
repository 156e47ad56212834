-- What the reader holds of a head after a piece.
use Rattle.std.proofs.Common.{◌≡◌, ◌+◌, ◌++◌, ◌∙◌, length, length-append, sym, subst, ap, arith}
use Rattle.std.specs.Prelude.{Ok}
use Rattle.http_reply.specs.Reading.{Reading, Feeds}
use Rattle.http_reply.specs.Parts.{IsPart}
use Rattle.http_reply.proofs.FeedLaws.{head_feeds}
use Rattle.http_reply.proofs.PartLaws.{part_open}
use Rattle.http_reply.proofs.reader.ReplyReader.keep.Goals as goal

pub returns-clause-feeds : goal.returns-clause-feeds
returns-clause-feeds c =
    let i = c.self.inside in
    let piece = c.args.piece.now in
    let old : Reading = record { waiting = i.waiting.items; at = i.at; begun = i.begun; stage = i.stage; body = i.body.items; read = i.read; unread = i.unread.items; fault = i.fault } in
    let open_is = rw (← c.self.view_is) at c.requires.open in
    let part = rw (← c.self.view_is) at c.requires.part in
    let short = rw (← c.self.view_is) at c.requires.short in
    let all = c.extend_from_slice.new.self.items in
    let e : all ≡ i.unread.items ++ piece = c.in_ok-extend_from_slice.ensures.items in
    let n : length all ≡ length i.unread.items + length piece = ap length e ∙ length-append i.unread.items piece in
    let f = head_feeds old piece all open_is.0 open_is.1 e (omega (arith, n, short)) (part_open c.args.part all (subst (IsPart c.args.part) (sym e) part)) in
    subst (λ (r : Reading). Feeds r piece (Ok tt) (record old { unread = all })) c.self.view_is f
