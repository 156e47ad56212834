use Rattle.std.proofs.Common.{[], ◌∷◌, ◌++◌, ◌∙◌, sym, subst, ap}
use Rattle.std.specs.Prelude.{None, Option}
use Rattle.edge_io.specs.Net.{NetState}
use Rattle.desk_seats.specs.Ran.{ran_confirms}
use Rattle.serve_forwarder.specs.Looks.{AreLooks, first_of, forwarder_at, offer_at, stuck_after}
use Rattle.serve_forwarder.proofs.Chain.{look_more, looks_are_ran}
use Rattle.serve_forwarder.proofs.Turning.{stuck_more, turn_more}
use Rattle.serve_forwarder.proofs.beside.forward_beside.Goals as goal

pub look-looked-requires-clause-confirms : goal.look-looked-requires-clause-confirms
look-looked-requires-clause-confirms g c =
    let looked = c.looks.invariant in
    ran_confirms g.S.Seat.start g.S.Seat.seats (g.S.Seat.knows c.args.seat.now) (g.S.Seat.knows c.looks.seat) _
    (looks_are_ran g.S.Seat.start c.args.destination.now looked.0 _ _ looked.1) c.requires.confirms

pub looks-preserved : goal.looks-preserved
looks-preserved g c =
    let looked = c.looks.invariant in
    let once = c.look-looked.ensures in
    let to = c.args.destination.now in
    let looks = looked.0 ++ once.look ∷ [] in
    let began = forwarder_at (g.S.Seat.knows c.args.seat.now) (g.N.Net.told c.args.net.now) in
    let more = look_more g.S.Seat.start to looked.0 once.look began _ _ looked.1 once.is_look in (
      looks,
      subst (λ (net : NetState). AreLooks g.S.Seat.start to looks began (forwarder_at (g.S.Seat.knows c.look-looked.new.seat) net)) (sym c.rest_after-pauses.ensures) more,
      turn_more None looked.0 once.look looked.2 (once.offers ∙ ap (λ (s : Option _). offer_at s (first_of once.look.given)) looked.3),
      once.stuck_is ∙ ap (λ (s : Option _). stuck_after s once.look) looked.3 ∙ sym (stuck_more None looked.0 once.look),
    )
