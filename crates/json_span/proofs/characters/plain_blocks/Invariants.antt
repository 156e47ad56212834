use Rattle.std.proofs.Common.{◌-◌, ◌≤◌, length}
use Rattle.json_span.specs.Plain.{ArePlain}
use Rattle.json_span.proofs.characters.plain_blocks.Given as goal

abbrev pub invariant-loop-end : goal.invariant-loop-end
invariant-loop-end l = (l.fn.at ≤ l.end) × (l.end ≤ length l.bytes) × ArePlain l.bytes l.fn.at l.end

abbrev pub decreases-loop-end : goal.decreases-loop-end
decreases-loop-end l = length l.bytes - l.end
