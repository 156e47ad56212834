-- A door over TCP.
use Rattle.std.specs.Prelude.{Some, None}
use Rattle.std.specs.String.{string_bytes}
use Rattle.edge_io.specs.Door.{DoorState}
use Rattle.edge_net.specs.declared.door.TcpDoor.{TcpDoor}

-- what it tells: its place and its counts of faults
abbrev pub state_of : {R : Type 0} → TcpDoor R → DoorState
state_of door = record {
  place = Some (string_bytes door.place);
  waiting = None;
  accepted = None;
  talks = None;
  accept_faults = door.accept_errors;
  read_faults = door.read_errors;
  write_faults = door.write_errors;
}
