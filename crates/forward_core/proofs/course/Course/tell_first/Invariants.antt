use Rattle.std.proofs.Common.{◌-◌, ◌≤◌}
use Rattle.forward_core.specs.Course.{TellsFirst}
use Rattle.forward_core.proofs.course.Course.tell_first.Given as goal

abbrev pub invariant-loop-self : goal.invariant-loop-self
invariant-loop-self l = record { upto : l.self.told ≤ l.told; tells : TellsFirst l.self.told l.fn.self l.self }

abbrev pub decreases-loop-self : goal.decreases-loop-self
decreases-loop-self l = l.told - l.self.told
