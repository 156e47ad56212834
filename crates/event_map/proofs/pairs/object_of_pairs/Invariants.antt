use Rattle.std.proofs.Common.{length}
use Rattle.event_map.proofs.Members.{Comes}
use Rattle.event_map.proofs.pairs.object_of_pairs.Given as goal

abbrev pub invariant-loop-key : goal.invariant-loop-key
invariant-loop-key l = Comes l.text l.rest l.object.items

abbrev pub decreases-loop-key : goal.decreases-loop-key
decreases-loop-key l = length l.rest
