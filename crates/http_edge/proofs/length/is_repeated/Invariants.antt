use Rattle.std.proofs.Common.{◌≡◌, ◌+◌, ◌≤◌, drop, length}
use Rattle.http_edge.specs.Fields.{values_of}
use Rattle.http_edge.proofs.length.is_repeated.Given as goal

abbrev pub invariant-loop-field : goal.invariant-loop-field
invariant-loop-field l = (l.count + length (values_of l.name (drop l.field-index l.fields)) ≡ length (values_of l.name l.fields)) × (l.count ≤ l.field-index)
