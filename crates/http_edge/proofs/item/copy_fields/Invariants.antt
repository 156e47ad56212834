use Rattle.std.proofs.Common.{◌≡◌, take}
use Rattle.http_edge.proofs.item.copy_fields.Given as goal

abbrev pub invariant-loop-field : goal.invariant-loop-field
invariant-loop-field l = l.lines.items ≡ take l.field-index l.fields
