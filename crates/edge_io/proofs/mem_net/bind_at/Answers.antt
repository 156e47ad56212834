use Rattle.std.proofs.Common.{◌∙◌, refl, length, get_or, sym, ap, arith}
use Rattle.std.proofs.Math.Seq.{take-nil, drop-nil}
use Rattle.edge_io.proofs.Places.{first_is, doors_first, no_place, takes_doors}
use Rattle.edge_io.specs.declared.mem_place.MemPlace.{MemPlace}
use Rattle.edge_io.proofs.mem_net.bind_at.Goals as goal

pub bind-requires : goal.bind-requires
bind-requires c =
    let at = c.index-places-index in
    let first = doors_first c.args.name.now c.args.places.now c.in-Some.index at.result (first_is c.args.name.now c.args.places.now c.in-Some.index at.result (sym c.place_of.ensures ∙ c.in-Some.is)) in
    rw (← at.is) (omega (arith, at.result.doors.ok.0, ap length first, ap (λ (p : MemPlace). length p.doors.items) at.is))

pub returns-in-Some : goal.returns-in-Some
returns-in-Some c =
    let at = c.index-places-index in
    takes_doors c.args.name.now c.args.count c.args.places.now c.in-Some.index at.result (get_or c.args.places.now c.in-Some.index at.result) c.bind.new.self c.bind.result
    (first_is c.args.name.now c.args.places.now c.in-Some.index at.result (sym c.place_of.ensures ∙ c.in-Some.is)) refl c.bind.ensures.place c.bind.ensures.ok c.bind.ensures.left c.bind.ensures.err

pub returns-in-None : goal.returns-in-None
returns-in-None c =
    let none = no_place c.args.name.now c.args.places.now (sym c.place_of.ensures ∙ c.in-None.is) in record {
      gives = rw (none, c.new.ensures.items, take-nil) tt;
      left = rw (none, drop-nil);
      lost = tt;
      others = λ _ _. refl;
    }
