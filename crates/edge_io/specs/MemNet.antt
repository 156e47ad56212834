-- A net in memory.
use Rattle.std.specs.Prelude.{◌≡◌, ◌≢◌, ◌⊎◌, ◌↔◌, ◌<◌}
use Rattle.std.specs.Prelude.{ℕ, List, map, vec_len, take, drop, length, find, Option, Some, None, Result, Ok, Err, IsErr, IsErrOf, IfOk, OnOk, OnErr}
use Rattle.std.specs.Global.{Vec}
use Rattle.std.specs.String.{string_bytes}
use Rattle.std.specs.Vec.{vec_capacity}
use Rattle.edge_io.specs.Counts.{one_more}
use Rattle.edge_io.specs.Net.{Bound, HungUp, NetState}
use Rattle.edge_io.specs.Script.{IsFailing, Advances}
use Rattle.edge_io.specs.MemPlace.{doors_at, AreBoundAs, LosesDoors}
use Rattle.edge_io.specs.MemScript.{is_for, IsOfScript}
use Rattle.edge_io.specs.declared.script.Script.{Script}
use Rattle.edge_io.specs.declared.net_fault.NetFault.{NetFault}
use Rattle.edge_io.specs.declared.net_fault.NetFault.TheVariants.{Fault, NoMemory}
use Rattle.edge_io.specs.declared.mem_link.MemLink.{MemLink}
use Rattle.edge_io.specs.declared.mem_monitor.MemMonitor.{MemMonitor}
use Rattle.edge_io.specs.declared.mem_door.MemDoor.{MemDoor}
use Rattle.edge_io.specs.declared.mem_place.MemPlace.{MemPlace}
use Rattle.edge_io.specs.declared.mem_script.MemScript.{MemScript}
use Rattle.edge_io.specs.declared.mem_net.BoundDoors.{BoundDoors}
use Rattle.edge_io.specs.declared.mem_net.Hung.{Hung}
use Rattle.edge_io.specs.declared.mem_net.MemNet.{MemNet}

-- what is told of doors that were bound together
abbrev pub bound_of : BoundDoors → Bound
bound_of one = record { place = string_bytes one.place; doors = one.doors }

-- what is told of a link that was hung up
abbrev pub hung_of : Hung → HungUp
hung_of one = record { place = string_bytes one.place; read = one.read.items; written = one.written.items; left = one.left }

-- which calls of bind, monitor and dial fail
abbrev pub calls_of : MemNet → Script
calls_of net = net.calls

-- the places with the doors that are left there, and the scripts
abbrev pub places_of : MemNet → List MemPlace
places_of net = net.places.items

abbrev pub scripts_of : MemNet → List MemScript
scripts_of net = net.scripts.items

-- the links that were hung up
abbrev pub hung_up_of : MemNet → List HungUp
hung_up_of net = map hung_of net.hung.items

-- the doors that were bound
abbrev pub bound_by : MemNet → List Bound
bound_by net = map bound_of net.bound.items

-- what it tells
abbrev pub state_of : MemNet → NetState
state_of net = record {
  bound = Some (bound_by net);
  hung = Some (hung_up_of net);
  net_faults = net.faults;
  read_faults = net.read_faults;
  write_faults = net.write_faults;
}

-- one more call failed
abbrev pub fault_counted : MemNet → MemNet
fault_counted net = record net { faults = one_more net.faults }

-- there is room to tell of one link more that is hung up
abbrev pub has_room_for_one : MemNet → Type 0
has_room_for_one net = vec_len net.hung < vec_capacity net.hung

-- the script of the first place of that name, or none
abbrev pub script_at : List ℕ → MemNet → Option MemScript
script_at name net = find (is_for name) (scripts_of net)

-- the count rises by one where the call answers a fault, and else stays
abbrev pub CountsNetFault : {T : Type 0} → ℕ → ℕ → Result T NetFault → Type 0
CountsNetFault before now (Ok made) = now ≡ before
CountsNetFault before now (Err Fault) = now ≡ one_more before
CountsNetFault before now (Err NoMemory) = now ≡ before

-- What a bind answers and does: it fails exactly where it is to fail or fewer doors are left at the place, and then changes
-- nothing there. Else it gives the first of them; after want of memory some of these may be gone.
pub record BindsExactly (name : List ℕ) (count : ℕ) (old new : MemNet) (result : Result (Vec MemDoor) NetFault) : Type 0 where
  pub fails : IsErrOf result Fault ↔ (IsFailing (calls_of old) ⊎ (length (doors_at name (places_of old)) < count))
  pub gives : IfOk result (λ bound. AreBoundAs name (take count (doors_at name (places_of old))) bound.items)
  pub left : OnOk result (doors_at name (places_of new) ≡ drop count (doors_at name (places_of old)))
  pub lost : OnErr result (LosesDoors (doors_at name (places_of old)) (doors_at name (places_of new)))
  pub unchanged : IsErrOf result Fault → places_of new ≡ places_of old
  pub others : (other : List ℕ) → other ≢ name → doors_at other (places_of new) ≡ doors_at other (places_of old)
  pub counts : CountsNetFault old.faults new.faults result
  pub advances : Advances (calls_of old) (calls_of new)
  pub scripts : scripts_of new ≡ scripts_of old

-- What a call for a monitor answers and does: it fails exactly where it is to fail.
pub record MonitorsExactly (old new : MemNet) (result : Result MemMonitor NetFault) : Type 0 where
  pub fails : IsErr result ↔ IsFailing (calls_of old)
  pub counts : CountsNetFault old.faults new.faults result
  pub advances : Advances (calls_of old) (calls_of new)
  pub places : places_of new ≡ places_of old
  pub scripts : scripts_of new ≡ scripts_of old

-- What a dial answers and does: it fails exactly where it is to fail or the place has no script, and else gives a link
-- with the first one.
pub record DialsExactly (name : List ℕ) (old new : MemNet) (result : Result MemLink NetFault) : Type 0 where
  pub fails : IsErrOf result Fault ↔ (IsFailing (calls_of old) ⊎ (script_at name old ≡ None))
  pub gives : IfOk result (λ link. (script : MemScript) × (script_at name old ≡ Some script) × IsOfScript script name link)
  pub counts : CountsNetFault old.faults new.faults result
  pub advances : Advances (calls_of old) (calls_of new)
  pub places : places_of new ≡ places_of old
  pub scripts : scripts_of new ≡ scripts_of old

-- what a hang-up leaves
pub record SameSetup (old new : MemNet) : Type 0 where
  pub calls : calls_of new ≡ calls_of old
  pub places : places_of new ≡ places_of old
  pub scripts : scripts_of new ≡ scripts_of old
