use Rattle.std.proofs.Common.{◌≡◌, drop}
use Rattle.edge_memory.specs.Held.{is_written}
use Rattle.edge_memory.proofs.crash.is_written.Given as goal

abbrev pub invariant-loop-range : goal.invariant-loop-range
invariant-loop-range l = is_written (drop l.range-index l.ranges) l.place ≡ is_written l.ranges l.place
