use Rattle.std.proofs.Common.{◌-◌}
use Rattle.edge_file.proofs.tracked_file.write_back.Given as goal

abbrev pub decreases-loop-at : goal.decreases-loop-at
decreases-loop-at l = l.range.to - l.at
