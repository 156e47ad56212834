use Rattle.std.proofs.Common.{◌≡◌, ◌-◌, ◌≤◌, take, drop, vec_len}
use Rattle.edge_io.specs.MemPlace.{AreBoundAs}
use Rattle.edge_io.proofs.mem_place.MemPlace.first.Given as goal

abbrev pub invariant-doors : goal.invariant-doors
invariant-doors l = record {
  few : vec_len l.bound ≤ l.count;
  left : l.doors.items ≡ drop (vec_len l.bound) l.fn.doors.items;
  long : vec_len l.doors ≡ vec_len l.fn.doors - vec_len l.bound;
  bound : AreBoundAs l.name (take (vec_len l.bound) l.fn.doors.items) l.bound.items;
}

abbrev pub decreases-doors : goal.decreases-doors
decreases-doors l = l.count - vec_len l.bound
