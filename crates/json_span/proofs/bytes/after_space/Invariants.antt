use Rattle.json_span.specs.Json.{AreSpaces}
use Rattle.json_span.specs.Spans.{Stretch}
use Rattle.json_span.proofs.bytes.after_space.Given as goal

abbrev pub invariant-loop-i : goal.invariant-loop-i
invariant-loop-i l = Stretch AreSpaces l.bytes l.at l.i
