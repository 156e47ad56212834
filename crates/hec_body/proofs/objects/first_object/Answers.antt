use Rattle.std.proofs.Common.{ℕ, List}
use Rattle.json_span.proofs.NamedLaws.{none_anyhow}
use Rattle.hec_body.specs.Events.{BeginsObject}
use Rattle.hec_body.proofs.Front.{span_of, begins_at, object_begins}
use Rattle.hec_body.proofs.EventOf.{value_inside, part_event, part_none}
use Rattle.hec_body.proofs.objects.first_object.Goals as goal

pub returns-in_err-found-clause-none : goal.returns-in_err-found-clause-none
returns-in_err-found-clause-none c =
    let b = c.args.bytes.now in
    none_anyhow c.from_residual.result ((text rest : List ℕ) → BeginsObject b text rest → ⊥)
    (λ text rest begins. c.in_err-found.ensures.none (span_of b text rest begins) (begins_at b text rest begins))

pub part-requires : goal.part-requires
part-requires c = let f = c.in_ok-found in value_inside c.args.bytes.now f.found.object f.found.value f.ensures.object.1 f.ensures.value

pub returns-clause-object : goal.returns-clause-object
returns-clause-object c = object_begins c.args.bytes.now c.in_ok-found.found.object c.in_ok-found.ensures.object

pub returns-clause-event : goal.returns-clause-event
returns-clause-event c = let f = c.in_ok-found in part_event c.args.bytes.now f.found.object f.found.value c.part.result f.ensures.object.1 f.ensures.value c.part.ensures

pub returns-clause-no_event : goal.returns-clause-no_event
returns-clause-no_event c = let f = c.in_ok-found in part_none c.args.bytes.now f.found.object f.found.value c.part.result f.ensures.object.1 f.ensures.value c.part.ensures
