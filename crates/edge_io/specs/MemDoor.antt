-- A door in memory.
use Rattle.std.specs.Prelude.{◌≡◌, ◌↔◌, ◌-◌, ◌==◌, ◌&&◌, ℕ, Bool, List, ◌++◌, map, length, Option, Some, Result, IsErr, IfOk, OnErr}
use Rattle.std.specs.Option.{option_map, option_to_list}
use Rattle.std.specs.String.{string_bytes}
use Rattle.std.specs.VecDeque.{deque_len}
use Rattle.edge_io.specs.Counts.{CountsFault}
use Rattle.edge_io.specs.Door.{Talked, DoorState}
use Rattle.edge_io.specs.Script.{IsFailing, Advances}
use Rattle.edge_io.specs.declared.script.Script.{Script}
use Rattle.edge_io.specs.declared.door.AcceptFault.{AcceptFault}
use Rattle.edge_io.specs.declared.mem_link.MemLink.{MemLink}
use Rattle.edge_io.specs.declared.mem_door.Finished.{Finished}
use Rattle.edge_io.specs.declared.mem_door.MemDoor.{MemDoor}

-- what is told of a connection that was given back
abbrev pub talked_of : Finished → Talked
talked_of one = record { proto = one.proto; conn = one.conn; read = one.read.items; written = one.written.items; status = one.status; left = one.left }

-- the links that wait, in the order in which they are accepted
abbrev pub links_of : MemDoor → List MemLink
links_of door = door.links.items

-- how many they are, and how many were accepted
abbrev pub waiting_of : MemDoor → ℕ
waiting_of door = deque_len door.links

abbrev pub accepted_of : MemDoor → ℕ
accepted_of door = door.made - deque_len door.links

-- the connections that were given back
abbrev pub talks_of : MemDoor → List Talked
talks_of door = map talked_of door.talks.items

-- which accepts fail
abbrev pub script_of : MemDoor → Script
script_of door = door.script

-- what it tells
abbrev pub state_of : MemDoor → DoorState
state_of door = record {
  place = option_map string_bytes door.place;
  waiting = Some (waiting_of door);
  accepted = Some (accepted_of door);
  talks = Some (talks_of door);
  accept_faults = door.accept_faults;
  read_faults = door.read_faults;
  write_faults = door.write_faults;
}

-- no link was accepted from it or given back to it
pub record IsUntouched (door : MemDoor) : Type 0 where
  pub accepted : accepted_of door ≡ 0
  pub talks : length door.talks.items ≡ 0

-- the same as a test
abbrev pub is_untouched : MemDoor → Bool
is_untouched door = (accepted_of door == 0) && (length door.talks.items == 0)

-- What an accept answers and does: it fails exactly where it is to fail, and else gives the first of the links that wait.
pub record AcceptsExactly (old new : MemDoor) (result : Result (Option MemLink) AcceptFault) : Type 0 where
  pub fails : IsErr result ↔ IsFailing (script_of old)
  pub gives : IfOk result (λ link. links_of old ≡ option_to_list link ++ links_of new)
  pub kept : OnErr result (links_of new ≡ links_of old)
  pub counts : CountsFault old.accept_faults new.accept_faults result
  pub advances : Advances (script_of old) (script_of new)

-- the door at its place, and else as it was
pub record IsBoundAs (at : List ℕ) (old new : MemDoor) : Type 0 where
  pub place : (state_of new).place ≡ Some at
  pub links : links_of new ≡ links_of old
  pub script : script_of new ≡ script_of old
  pub rest : state_of new ≡ record (state_of old) { place = Some at }
