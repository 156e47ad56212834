use Rattle.std.proofs.Common.{length, ◌+◌, ◌-◌, ◌++◌, drop}
use Rattle.std.specs.List.{All}
use Rattle.lumber_frame.specs.Places.{Reaches}
use Rattle.lumber_frame.specs.Running.{Spans}
use Rattle.lumber_frame.specs.Spelling.{IsFrameFor}
use Rattle.lumber_frame.proofs.scan.scan.Given as goal

abbrev pub invariant-loop-phase : goal.invariant-loop-phase
invariant-loop-phase l = Spans l.side (l.held ++ l.piece) l.frames.items l.end × Reaches l.side (drop l.end (l.held ++ l.piece)) l.now × All (IsFrameFor l.side) l.frames.items

abbrev pub decreases-loop-phase : goal.decreases-loop-phase
decreases-loop-phase l = length l.held + length l.piece - l.end
