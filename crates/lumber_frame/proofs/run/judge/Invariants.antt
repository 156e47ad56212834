use Rattle.std.proofs.Common.{List, length, ◌+◌, ◌-◌, ◌++◌, drop}
use Rattle.lumber_frame.specs.declared.frame.LumberFrame.{LumberFrame}
use Rattle.lumber_frame.specs.Places.{Reaches}
use Rattle.lumber_frame.specs.Running.{Spans}
use Rattle.lumber_frame.proofs.run.judge.Given as goal

abbrev pub invariant-loop-phase : goal.invariant-loop-phase
invariant-loop-phase l = (frames : List LumberFrame) × Spans l.side (l.held ++ l.piece) frames l.end × Reaches l.side (drop l.end (l.held ++ l.piece)) l.now

abbrev pub decreases-loop-phase : goal.decreases-loop-phase
decreases-loop-phase l = length l.held + length l.piece - l.end
