-- What a net tells, and what its calls do to that.
use Rattle.std.specs.Prelude.{◌≡◌, ◌⊎◌, ◌≤◌, ℕ, List, [], ◌∷◌, ◌++◌, Option, Some, None, Result, Ok, Err, length}
use Rattle.foundation.specs.Faults.{Rose}
use Rattle.edge_io.specs.Told.{IsToldAs, Adds}
use Rattle.edge_io.specs.declared.net_fault.NetFault.{NetFault}
use Rattle.edge_io.specs.declared.net_fault.NetFault.TheVariants.{Fault, NoMemory}

-- A link that was hung up: the place at which it was dialed, the bytes read from it and written to it, and how many
-- bytes were left unread.
pub record HungUp : Type 0 where
  pub place : List ℕ
  pub read : List ℕ
  pub written : List ℕ
  pub left : ℕ

-- Doors that were bound together: their place, and how many they are.
pub record Bound : Type 0 where
  pub place : List ℕ
  pub doors : ℕ

-- What a net tells: the doors that were bound, and the links that were hung up. Its counts of faults are of its binds, monitors and dials, and of the reads and the
-- writes of the links hung up.
pub record NetState : Type 0 where
  pub bound : Option (List Bound)
  pub hung : Option (List HungUp)
  pub net_faults : ℕ
  pub read_faults : ℕ
  pub write_faults : ℕ

-- The doors that were bound are one more entry in what is told; where none were, that is as before.
abbrev pub AddsBound : {T : Type 0} → List ℕ → ℕ → Result T NetFault → Option (List Bound) → Option (List Bound) → Type 0
AddsBound place doors (Err _) old new = new ≡ old
AddsBound place doors (Ok made) None new = new ≡ None
AddsBound place doors (Ok made) (Some old) new = new ≡ Some (old ++ record { place = place; doors = doors } ∷ [])

-- what a bind, a monitor or a dial leaves
pub record SameHung (old new : NetState) : Type 0 where
  pub hung : new.hung ≡ old.hung
  pub read_faults : new.read_faults ≡ old.read_faults
  pub write_faults : new.write_faults ≡ old.write_faults

-- A bind, a monitor or a dial answers a fault only where the count of faults rose in this call. Want of memory is no fault, and a call
-- that answers none failed at nothing.
abbrev pub HasNetCause : {T : Type 0} → ℕ → ℕ → Result T NetFault → Type 0
HasNetCause before now (Ok made) = now ≡ before
HasNetCause before now (Err Fault) = (before ≤ now) × Rose 1 before now
HasNetCause before now (Err NoMemory) = now ≡ before

-- what is told of a link that is hung up, by its place and the bytes that it gave, took and has left, where it tells them
pub record IsHungUp (dialed given taken left : Option (List ℕ)) (one : HungUp) : Type 0 where
  pub place : IsToldAs dialed one.place
  pub read : IsToldAs given one.read
  pub written : IsToldAs taken one.written
  pub left_is : (rest : List ℕ) → left ≡ Some rest → one.left ≡ length rest

-- the link that is hung up is added, or there was no room for it, and the list is as before
abbrev pub AddsHung : Type 0 → Option (List HungUp) → Option (List HungUp) → (HungUp → Type 0) → Type 0
AddsHung HasRoom old new Is = Adds old new Is ⊎ ((¬ HasRoom) × (new ≡ old))
