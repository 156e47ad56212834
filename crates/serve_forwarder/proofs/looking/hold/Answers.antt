use Rattle.std.proofs.Common.{ℕ, List, refl, subst}
use Rattle.edge_io.specs.Told.{IsDialed}
use Rattle.forward_core.specs.Forwarded.{until_by}
use Rattle.forward_core.proofs.Exchanging.{is_new}
use Rattle.serve_forwarder.proofs.Hanging.{session_of, hangs_up}
use Rattle.serve_forwarder.proofs.looking.hold.Goals as goal

pub forward-sent-requires-clause-earned : goal.forward-sent-requires-clause-earned
forward-sent-requires-clause-earned g c =
    let dial = c.in-Ok.ensures in
    let hung = (g.N.Net.told c.args.net.now).hung in
    let there = subst (λ (p : List ℕ). IsDialed hung (g.N.L.Link.dialed c.in-Ok.link) p) c.as_str.ensures dial.place in
    c.requires.earned c.in-Ok.link (is_new hung _ _ _ _ _ there dial.fresh)

pub returns-clause-held : goal.returns-clause-held
returns-clause-held g c =
    let told = g.N.Net.told in
    let dial = c.in-Ok.ensures in
    let hung = c.hang_up.ensures in
    let forwards = c.forward-sent.ensures.forwards in
    let by = forwards.4 in
    let one = session_of forwards.0 (until_by c.args.upto forwards.1) by.bytes by.calls by.text (g.N.L.Source.left c.forward-sent.new.link) c.forward-sent.result in
    let pauses = g.met.N.Net.pauses_keep _ _ c.forward-sent.ensures.paused in
    let room = g.met.N.Net.pauses_keep_room _ _ c.forward-sent.ensures.paused dial.room in
    let there = subst (λ (p : List ℕ). IsDialed (told c.args.net.now).hung (g.N.L.Link.dialed c.in-Ok.link) p) c.as_str.ensures dial.place in (
      record {
        one = one;
        held = record { begun = forwards.2; end = forwards.1; asked = forwards.3; until_is = refl; made = by.made; ended = by.ended };
        hung = hangs_up c.args.destination.now.place one (told c.args.net.now) (told c.dial.new.self) (told c.forward-sent.new.rest) (told c.hang_up.new.self) _ _ _ _ _ _ _ _ _ _ _ _
            dial.rest dial.cause dial.bound pauses room there c.forward-sent.ensures.dialed dial.fresh dial.unfailed by.read by.consumed by.wrote c.forward-sent.ensures.reads c.forward-sent.ensures.writes hung.adds hung.reads hung.writes hung.quiet hung.bound;
        sent_is = refl;
      },
      record {
        new = c.in-Ok.link;
        is_new = is_new (told c.args.net.now).hung _ _ _ _ _ there dial.fresh;
        since = record { now = c.forward-sent.new.link; goes_on = c.forward-sent.ensures.same; gave = by.read; took = by.wrote };
      },
    )
