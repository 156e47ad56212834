use Rattle.std.proofs.Common.{ℕ, List, IfOk, subst, sym}
use Rattle.event_form.specs.declared.event.Origin.{Origin}
use Rattle.event_map.specs.Objects.{pairs_object}
use Rattle.event_map.specs.Maps.{JsonBy, OfPairs}
use Rattle.event_map.proofs.maps.json_object.Goals as goal

pub returns-in-LumberData : goal.returns-in-LumberData
returns-in-LumberData c =
    let text = c.args.event.now.text in
    let done = c.object_of_pairs.result in
    subst (λ (o : Origin). IfOk done (JsonBy o text)) (sym c.in-LumberData.is) (subst (λ (t : List ℕ). IfOk done (OfPairs pairs_object t)) c.bytes-text.ensures c.object_of_pairs.ensures)
