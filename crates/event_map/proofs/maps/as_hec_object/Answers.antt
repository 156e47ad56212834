use Rattle.std.proofs.Common.{◌≡◌, ℕ, List, IfOk, subst, sym, ◌∙◌, ap}
use Rattle.std.proofs.lemmas.Result.{IfOk-weaker}
use Rattle.event_form.specs.declared.event.Origin.{Origin}
use Rattle.event_map.specs.Objects.{event_object, pairs_object}
use Rattle.event_map.specs.Maps.{HecBy, OfPairs}
use Rattle.event_map.proofs.maps.as_hec_object.Goals as goal

abbrev event_of_pairs : List (List ℕ × List ℕ) → List ℕ
event_of_pairs pairs = event_object (pairs_object pairs)

pub returns-in_ok-object_of_pairs-in-LumberData : goal.returns-in_ok-object_of_pairs-in-LumberData
returns-in_ok-object_of_pairs-in-LumberData c =
    let text = c.args.event.now.text in
    let done = c.with_event-in-LumberData.result in
    let value = c.bytes-in-LumberData.result.now in
    let pairs = c.in_ok-object_of_pairs-in-LumberData.ensures in
    let made : IfOk done (OfPairs event_of_pairs c.bytes-text.result.now) =
    IfOk-weaker done (λ (bytes : List ℕ). bytes ≡ event_object value) (OfPairs event_of_pairs c.bytes-text.result.now) (λ bytes is. (pairs.0, is ∙ ap event_object (c.bytes-in-LumberData.ensures ∙ pairs.1))) c.with_event-in-LumberData.ensures in
    subst (λ (o : Origin). IfOk done (HecBy o text)) (sym c.in-LumberData.is) (subst (λ (t : List ℕ). IfOk done (OfPairs event_of_pairs t)) c.bytes-text.ensures made)
