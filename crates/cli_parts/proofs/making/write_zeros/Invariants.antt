use Rattle.std.proofs.Common.{◌-◌}
use Rattle.cli_parts.proofs.making.write_zeros.Given as goal

abbrev pub decreases-loop-at : goal.decreases-loop-at
decreases-loop-at l = l.to - l.at
