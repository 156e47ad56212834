-- What a window holds of a cut head.
use Rattle.std.proofs.Common.{◌≡◌, ◌∙◌, ◌+◌, ◌-◌, [], length, drop, take, refl, sym, ap, subst, arith, length-append}
use Rattle.http_edge.specs.declared.fault.HttpFault.{HttpFault}
use Rattle.http_edge.specs.declared.held.Held.{Held}
use Rattle.http_edge.specs.declared.left.Left.{Left}
use Rattle.http_edge.specs.Cutting.{GoesOn}
use Rattle.http_edge.specs.Filling.{IsHeldOf, Settles}
use Rattle.http_edge.specs.Heads.{IsOpenHead}
use Rattle.http_edge.specs.Keeping.{answer, moved}
use Rattle.std.proofs.Math.Nat.{le_refl}
use Rattle.std.specs.Vec.{vec_capacity}
use Rattle.http_edge.proofs.CutHeldLaws.{bad_head_feed, open_head_feeds}
use Rattle.http_edge.proofs.HeldLaws.{cut_off, kept_feed}
use Rattle.http_edge.proofs.OpeningLaws.{open_nil}
use Rattle.http_edge.proofs.held.Held.read_head.Goals as goal

pub settle-requires-clause-head : goal.settle-requires-clause-head
settle-requires-clause-head c = λ e. subst (λ (l : Left). IsOpenHead (drop (0 - l.rest) [])) (sym c.cleared.ensures) open_nil

pub returns-in-Open : goal.returns-in-Open
returns-in-Open c =
    let h = c.args.self.now in
    let f = c.requires.fills in
    let more = c.args.more.now in
    let new = c.read_cut.new.unread.items in
    let g = subst (GoesOn h.unread.items more new) c.in-Open.is c.in-Ok.ensures.goes_on in
    let n : length new ≡ length h.unread.items + length more = ap length g.0 ∙ length-append h.unread.items more in
    let room = c.requires.room in
    let place = c.requires.place in
    record {
      fills = record {
        space = f.space;
        unread_space = c.read_cut.ensures.room;
        order = f.order;
        inside = f.inside;
        bodies = f.bodies;
        heads_are = f.heads_are;
        are_heads = f.are_heads;
        begun_is = f.begun_is;
        first = f.first;
        alone = f.alone;
        bound = omega (arith, n, room);
        fits = f.fits;
        short = g.1;
        room = omega (arith, n, place);
        head = λ e. g.2;
        none = f.none;
        broken = subst (λ v. IsHeldOf v h.read new) (sym c.requires.open.0) tt;
      };
      feeds = open_head_feeds h more new c.in-Open.part f c.requires.open.0 c.requires.open.1 g.0 g.1 g.2;
      room = omega (arith, n);
    }

pub returns-in-Bad : goal.returns-in-Bad
returns-in-Bad c =
    let h = c.args.self.now in
    let more = c.args.more.now in
    let new = c.read_cut.new.unread.items in
    let g = subst (GoesOn h.unread.items more new) c.in-Bad.is c.in-Ok.ensures.goes_on in
    let fault : HttpFault = record { at = 0; why = c.in-Bad.why } in
    let mid : Held = record h { unread = c.read_cut.new.unread } in
    let st = subst (λ (l : Left). Settles mid h.at [] l c.settle.new.self) c.cleared.ensures c.settle.ensures.settles in
    let told = c.settle.ensures.told ∙ ap (λ (l : Left). answer (moved h.at l.fault)) c.cleared.ensures in
    bad_head_feed h mid c.settle.new.self more new c.in-Bad.why c.settle.result c.requires.fills c.requires.open.0 c.requires.open.1 refl refl refl refl refl (let s = c.requires.fills.space in s) c.requires.room c.requires.place g.0.0 g.0.2 g.1 st told

pub returns-in_default : goal.returns-in_default
returns-in_default c =
    let h = c.args.self.now in
    let f = c.requires.fills in
    kept_feed h _ h.unread.items c.args.more.now f c.requires.open.0 (record { queue_is = refl; heads_is = refl; beside_is = refl; bytes_are = refl; space = le_refl (vec_capacity h.bytes); from_is = refl; whole_is = refl; at_is = refl; begun_is = refl; size_is = refl; stage_is = refl; read_is = refl; unread_is = c.in_default.ensures.kept; unread_space = c.read_cut.ensures.room; part_is = refl; fault_is = refl })

pub returns-in_default-join : goal.returns-in_default-join
returns-in_default-join c =
    let h = c.args.self.now in
    let f = c.requires.fills in
    let more = c.args.more.now in
    let new = c.read_cut.new.unread.items in
    let g = subst (GoesOn h.unread.items more new) c.in-Whole.is c.in-Ok.ensures.goes_on in
    let kept = cut_off h.unread.items new c.truncate.new.self.items (take c.in-Whole.used more) c.len-had.result g.1 (c.len-had.ensures ∙ h.unread.ok.0) c.truncate.ensures.items in
    let a = c.read_cut.ensures.room in
    let b = c.truncate.ensures.capacity in
    kept_feed h _ h.unread.items more f c.requires.open.0 (record { queue_is = refl; heads_is = refl; beside_is = refl; bytes_are = refl; space = le_refl (vec_capacity h.bytes); from_is = refl; whole_is = refl; at_is = refl; begun_is = refl; size_is = refl; stage_is = refl; read_is = refl; unread_is = kept; unread_space = omega (arith, a, b); part_is = refl; fault_is = refl })
