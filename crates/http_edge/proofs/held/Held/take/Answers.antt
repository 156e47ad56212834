-- What was given is gone, and contracts see the same.
use Rattle.std.proofs.Common.{◌≡◌, length, ap, subst, arith}
use Rattle.http_edge.specs.declared.held.Held.{Held}
use Rattle.http_edge.specs.Filling.{FeedsTo, window_of}
use Rattle.http_edge.specs.Window.{Window}
use Rattle.http_edge.proofs.GiveLaws.{packed_window}
use Rattle.http_edge.proofs.held.Held.take.Goals as goal

pub returns : goal.returns
returns c =
    let h = c.args.self.now in
    let p = c.pack.new.self in
    let x = c.pack.ensures.packed in
    let r = c.read.ensures in
    let at : p.at ≡ h.at = ap (λ (v : Held). v.at) x.same in
    let read : p.read ≡ h.read = ap (λ (v : Held). v.read) x.same in
    let unread : length p.unread.items ≡ length h.unread.items = ap (λ (v : Held). length v.unread.items) x.same in
    let room = r.room in
    record {
      fills = r.fills;
      feeds = subst (λ (w : Window). FeedsTo w c.args.more.now c.read.result (window_of c.read.new.self)) (packed_window h p c.requires.fills x) r.feeds;
      room = omega (arith, room, at, read, unread);
    }
