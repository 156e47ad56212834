use Rattle.std.proofs.Common.{◌≡◌, drop}
use Rattle.http_edge.specs.Fields.{field_value}
use Rattle.http_edge.proofs.field.first_value.Given as goal

abbrev pub invariant-loop-field : goal.invariant-loop-field
invariant-loop-field l = field_value l.name l.fields ≡ field_value l.name (drop l.field-index l.fields)
