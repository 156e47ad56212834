use Rattle.std.proofs.Common.{◌≡◌, ◌∙◌, length, get_or, sym, ap, vec_len}
use Rattle.edge_io.proofs.Places.{first_is, doors_first, no_place}
use Rattle.edge_io.proofs.mem_net.left_at.Goals as goal

pub returns-in-Some : goal.returns-in-Some
returns-in-Some c =
    let d = c.index-places-index.result in
    let place = get_or c.args.places.now c.in-Some.index d in
    let first = doors_first c.args.name.now c.args.places.now c.in-Some.index d (first_is c.args.name.now c.args.places.now c.in-Some.index d (sym c.place_of.ensures ∙ c.in-Some.is)) in
    let long : c.len.result ≡ vec_len place.doors = c.len.ensures in
    long ∙ place.doors.ok.0 ∙ sym (ap length first)

pub returns-in-None : goal.returns-in-None
returns-in-None c = sym (ap length (no_place c.args.name.now c.args.places.now (sym c.place_of.ensures ∙ c.in-None.is)))
