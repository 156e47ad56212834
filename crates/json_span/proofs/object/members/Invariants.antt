use Rattle.std.proofs.Common.{◌-◌, length}
use Rattle.json_span.proofs.WalkLaws.{Walk}
use Rattle.json_span.proofs.object.members.Given as goal

abbrev pub invariant-loop-at : goal.invariant-loop-at
invariant-loop-at l = Walk l.bytes l.fn.object l.at l.members.items

abbrev pub decreases-loop-at : goal.decreases-loop-at
decreases-loop-at l = length l.bytes - l.at
