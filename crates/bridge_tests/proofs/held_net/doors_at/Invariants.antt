use Rattle.std.proofs.Common.{◌-◌, ◌≤◌, vec_len}
use Rattle.std.specs.Vec.{vec_capacity}
use Rattle.bridge_tests.proofs.held_net.doors_at.Given as goal

abbrev pub invariant-doors : goal.invariant-doors
invariant-doors l = record {
  few : vec_len l.made ≤ l.count;
  room : l.count ≤ vec_capacity l.made;
}

abbrev pub decreases-doors : goal.decreases-doors
decreases-doors l = l.count - vec_len l.made
