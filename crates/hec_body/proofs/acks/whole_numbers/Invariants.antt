use Rattle.std.proofs.Common.{◌≡◌, take}
use Rattle.serde_json.specs.View.{items_view}
use Rattle.hec_body.specs.Acks.{numbers}
use Rattle.hec_body.proofs.acks.whole_numbers.Given as goal

abbrev pub invariant-loop-value : goal.invariant-loop-value
invariant-loop-value l = items_view (take l.value-index l.values) ≡ numbers l.found.items
