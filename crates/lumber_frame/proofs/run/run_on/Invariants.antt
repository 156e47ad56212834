use Rattle.std.proofs.Common.{◌-◌, ◌++◌, drop}
use Rattle.lumber_frame.specs.Places.{Reaches}
use Rattle.lumber_frame.proofs.run.run_on.Given as goal

abbrev pub invariant-loop-side : goal.invariant-loop-side
invariant-loop-side l = Reaches l.side (drop l.begin (l.held ++ l.piece)) l.now

abbrev pub decreases-loop-side : goal.decreases-loop-side
decreases-loop-side l = l.rest - l.now.at
