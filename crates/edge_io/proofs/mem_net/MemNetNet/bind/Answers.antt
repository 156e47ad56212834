use Rattle.std.proofs.Common.{◌≡◌, ◌∙◌, List, length, refl, sym, ap, subst, arith}
use Rattle.std.proofs.lemmas.List.{with_items_is}
use Rattle.edge_io.specs.MemPlace.{doors_at, LosesDoors}
use Rattle.edge_io.specs.MemNet.{places_of}
use Rattle.edge_io.specs.declared.mem_place.MemPlace.{MemPlace}
use Rattle.edge_io.proofs.Places.{bind_starved, bound_are_new, bound_count}
use Rattle.edge_io.proofs.mem_net.MemNetNet.bind.Goals as goal

pub returns-clause-count : goal.returns-clause-count
returns-clause-count c =
    let same : c.deref.result.now ≡ c.deref_mut.result.now = c.deref.ensures.value ∙ sym c.deref_mut.ensures.value in
    let left = ap (λ (places : List MemPlace). length (doors_at c.args.place.now places)) same in
    bound_count c.args.place.now c.args.doors (doors_at c.args.place.now c.deref_mut.result.now) c.in_ok-made.made.items c.in_ok-made.ensures.gives (omega (arith, c.left_at.ensures, left))

pub returns-clause-fresh : goal.returns-clause-fresh
returns-clause-fresh c = bound_are_new c.args.place.now c.args.doors c.deref_mut.result.now c.in_ok-made.made.items c.in_ok-made.ensures.gives

pub returns-in_err-from_str-clause-exact : goal.returns-in_err-from_str-clause-exact
returns-in_err-from_str-clause-exact c =
    let name = c.args.place.now in
    let left = ap (λ (places : List MemPlace). length (doors_at name places)) c.deref.ensures.value in
    bind_starved name c.args.doors c.args.self.now _ c.from_residual.result c.from_residual.ensures.1 (λ f. (let t = c.if-next_fails.ensures.fails.1 f in absurd cc)) (omega (arith, c.left_at.ensures, left))
    (0, refl) (λ _ _. refl) refl c.next_fails.ensures.advances refl

pub returns-in_err-reserve-clause-exact : goal.returns-in_err-reserve-clause-exact
returns-in_err-reserve-clause-exact c =
    let name = c.args.place.now in
    let left = ap (λ (places : List MemPlace). length (doors_at name places)) c.deref.ensures.value in
    bind_starved name c.args.doors c.args.self.now _ c.from_residual-in_err-reserve.result c.from_residual-in_err-reserve.ensures.1 (λ f. (let t = c.if-next_fails.ensures.fails.1 f in absurd cc))
    (omega (arith, c.left_at.ensures, left)) (0, refl) (λ _ _. refl) refl c.next_fails.ensures.advances refl

pub returns-in_err-made-clause-exact : goal.returns-in_err-made-clause-exact
returns-in_err-made-clause-exact c =
    let name = c.args.place.now in
    let left = ap (λ (places : List MemPlace). length (doors_at name places)) c.deref.ensures.value in
    let seen : c.deref_mut.result.now ≡ places_of c.args.self.now = c.deref_mut.ensures.value in
    let now = with_items_is c.args.self.now.places c.bind_at.new.places (omega (arith, c.bind_at.auto.places, c.deref_mut.ensures.len)) in
    let lost = subst (λ (places : List MemPlace). LosesDoors (doors_at name places) (doors_at name c.bind_at.new.places)) seen c.in_err-made.ensures.lost in
    bind_starved name c.args.doors c.args.self.now _ c.from_residual-in_err-made.result c.from_residual-in_err-made.ensures.1 (λ f. (let t = c.if-next_fails.ensures.fails.1 f in absurd cc))
    (omega (arith, c.left_at.ensures, left)) (subst (λ (places : List MemPlace). LosesDoors (doors_at name (places_of c.args.self.now)) (doors_at name places)) (sym now) lost)
    (λ other differs. ap (doors_at other) now ∙ c.bind_at.ensures.others other differs ∙ ap (doors_at other) seen) refl c.next_fails.ensures.advances refl
