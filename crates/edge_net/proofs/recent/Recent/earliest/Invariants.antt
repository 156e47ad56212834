use Rattle.std.proofs.Common.{◌<◌}
use Rattle.edge_net.proofs.recent.Recent.earliest.Given as goal

abbrev pub invariant-loop-i : goal.invariant-loop-i
invariant-loop-i l = l.earliest < 64
