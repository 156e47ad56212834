use Rattle.std.proofs.Common.{◌-◌, ◌≤◌, All, vec_len}
use Rattle.std.specs.Vec.{vec_capacity}
use Rattle.edge_io.specs.Door.{IsNewDoor}
use Rattle.edge_net.specs.TcpDoor.{state_of}
use Rattle.edge_net.proofs.doors.doors_over.Given as goal

abbrev pub invariant-doors : goal.invariant-doors
invariant-doors g l = record {
  few : vec_len l.made ≤ l.count;
  room : l.count ≤ vec_capacity l.made;
  fresh : All (λ (d : _). IsNewDoor l.place (state_of d)) l.made.items;
}

abbrev pub decreases-doors : goal.decreases-doors
decreases-doors g l = l.count - vec_len l.made
