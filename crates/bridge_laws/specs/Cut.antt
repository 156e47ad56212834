-- Calls that were cut off, or never ended: of such a call no more is known than that each of its writes had leave.
use Rattle.std.specs.Prelude.{◌⊎◌, ℕ, List, [], ◌∷◌}
use Rattle.edge_disk.specs.Disk.{Moment}
use Rattle.bridge_laws.specs.Leave.{AreTouched, last_disk}
use Rattle.bridge_laws.specs.Lifetime.{IsNext, no_format}
use Rattle.bridge_laws.specs.Told.{DiskKind, Telling}

-- A call was cut off: its reads, syncs and writes, each of which had leave, led from the disk to another, and the device has what a crash
-- left of that one. Whether the call would have ended doesn't matter. It may be any call but a `format`, whose writes ask for no such leave.
pub record WasCut {D : Type 0} (moment : D → Moment) (Release : ℕ → Type 0) (old new : D) : Type 0 where
  pub touches : List D
  pub touched : AreTouched moment Release old touches
  pub left : (c : List ℕ) → (moment new).image c → (moment (last_disk old touches)).image c

-- A call, a skip, a move or a crash came, as is told of those that end; or a call was cut off.
abbrev pub IsNextOrCut : {D E S K N P : Type 0} (tell : Telling D S K N P) (other : DiskKind E) (Release : ℕ → Type 0) → D → D → Type 0
IsNextOrCut tell other Release old new = IsNext no_format tell other old new ⊎ WasCut tell.disk.moment Release old new

-- each of these is the next after the one before
abbrev pub AreNextOrCut : {D E S K N P : Type 0} (tell : Telling D S K N P) (other : DiskKind E) (Release : ℕ → Type 0) → D → List D → Type 0
AreNextOrCut tell other Release disk [] = Unit {0}
AreNextOrCut tell other Release disk (next ∷ more) = IsNextOrCut tell other Release disk next × AreNextOrCut tell other Release next more
