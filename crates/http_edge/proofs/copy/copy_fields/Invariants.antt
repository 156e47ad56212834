use Rattle.std.specs.Prelude.{◌≡◌, map, take}
use Rattle.httparse.specs.Spans.{header_bytes}
use Rattle.http_edge.specs.Heads.{field_of}
use Rattle.http_edge.proofs.copy.copy_fields.Given as goal

abbrev pub invariant-loop-i : goal.invariant-loop-i
invariant-loop-i l = l.fields.items ≡ map field_of (map (header_bytes l.buf) (take l.i l.spans))
