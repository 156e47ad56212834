-- What the reader holds of a body after a piece.
use Rattle.std.proofs.Common.{◌≡◌, ◌++◌, ◌∙◌, ◌+◌, ℕ, List, drop, sym, subst, ap}
use Rattle.std.specs.Prelude.{Ok}
use Rattle.http_edge.specs.declared.gather.Ending.TheVariants.{Open, Bad}
use Rattle.http_reply.specs.Reading.{Reading}
use Rattle.http_reply.specs.Keeping.{FeedsAll, settled}
use Rattle.http_edge.proofs.NextLaws.{window}
use Rattle.http_reply.specs.Heads.{IsOpenHead}
use Rattle.http_reply.proofs.OpeningLaws.{open_nil}
use Rattle.http_reply.proofs.FeedLaws.{open_feeds, bad_feeds, some_status, gathered}
use Rattle.http_reply.proofs.reader.ReplyReader.read_body.Goals as goal

pub returns-in-Open-clause-feeds : goal.returns-in-Open-clause-feeds
returns-in-Open-clause-feeds c =
    let i = c.self.inside in
    let x = c.in_ok-bytes.field-0 in
    let all = c.args.all.now in
    let old : Reading = record { waiting = i.waiting.items; at = i.at; begun = i.begun; stage = i.stage; body = i.body.items; read = i.read; unread = i.unread.items; fault = i.fault } in
    let q = rw (← c.self.view_is) at c.requires.begun in
    let h = some_status i.begun q.1 in
    let g = gathered i.stage c.len.result i.body.items all x.bytes.items x.used x.end (Open c.in-Open.stage) (c.len.ensures ∙ i.body.ok.0) c.in-Open.is c.in_ok-bytes.ensures in
    let body : c.extend_from_slice.new.self.items ≡ i.body.items ++ x.bytes.items = c.in_ok-extend_from_slice-in-Open.ensures.items ∙ ap (λ (v : List ℕ). i.body.items ++ v) c.deref-in-Open.ensures.value in
    let unread : c.in_ok-unread-in-Open.unread.items ≡ drop x.used all = c.in_ok-unread-in-Open.ensures.items ∙ window all x.used in
    let new : List ℕ → List ℕ → Reading = λ b u. record { waiting = i.waiting.items; at = i.at; begun = i.begun; stage = c.in-Open.stage; body = b; read = i.read + x.used; unread = u; fault = i.fault } in
    subst (λ (r : Reading). FeedsAll r all (Ok tt) (new c.extend_from_slice.new.self.items c.in_ok-unread-in-Open.unread.items)) c.self.view_is
    (open_feeds old all h.0 x.bytes.items x.used c.in-Open.stage (new c.extend_from_slice.new.self.items c.in_ok-unread-in-Open.unread.items) q.0 h.1 g (λ j. new (body j) (unread j)))

pub returns-clause-feeds : goal.returns-clause-feeds
returns-clause-feeds c =
    let i = c.self.inside in
    let x = c.in_ok-bytes.field-0 in
    let all = c.args.all.now in
    let old : Reading = record { waiting = i.waiting.items; at = i.at; begun = i.begun; stage = i.stage; body = i.body.items; read = i.read; unread = i.unread.items; fault = i.fault } in
    let q = rw (← c.self.view_is) at c.requires.begun in
    let h = some_status i.begun q.1 in
    let g = gathered i.stage c.len.result i.body.items all x.bytes.items x.used x.end (Bad c.in-Bad.why) (c.len.ensures ∙ i.body.ok.0) c.in-Bad.is c.in_ok-bytes.ensures in
    subst (λ (r : Reading). FeedsAll r all c.settle-in-Bad.result c.settle-in-Bad.new.self) c.self.view_is
    (bad_feeds old all h.0 x.bytes.items x.used c.in-Bad.why (i.at + c.place.result) c.cleared.result c.settle-in-Bad.new.self c.settle-in-Bad.result q.0 h.1 g (ap (λ (n : ℕ). i.at + n) c.place.ensures) c.cleared.ensures (c.settle-in-Bad.ensures.state ∙ ap (λ (r : Reading). settled r i.at c.cleared.result) (sym c.self.view_is)) c.settle-in-Bad.ensures.told)

pub settle-requires-clause-head : goal.settle-requires-clause-head
settle-requires-clause-head c = λ _. subst IsOpenHead (sym c.cleared.ensures.unread_is) open_nil
