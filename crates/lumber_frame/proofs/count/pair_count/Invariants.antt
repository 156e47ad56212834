use Rattle.std.proofs.Common.{length}
use Rattle.lumber_frame.proofs.CountLaws.{Counting}
use Rattle.lumber_frame.proofs.count.pair_count.Given as goal

abbrev pub invariant-loop-rest : goal.invariant-loop-rest
invariant-loop-rest l = Counting l.text l.rest l.count

abbrev pub decreases-loop-rest : goal.decreases-loop-rest
decreases-loop-rest l = length l.rest
