-- A place of a net in memory, where doors are bound.
use Rattle.std.specs.Prelude.{◌≡◌, ◌≢◌, ℕ, Bool, List, [], ◌∷◌, take, drop, if◌then◌else◌, Result, IfOk, OnOk, OnErr}
use Rattle.std.specs.Global.{Vec}
use Rattle.std.specs.declared.alloc.AllocError.{AllocError}
use Rattle.std.specs.List.{AllZip}
use Rattle.std.specs.Str.{bytes_eq}
use Rattle.std.specs.String.{string_bytes}
use Rattle.edge_io.specs.MemDoor.{IsBoundAs}
use Rattle.edge_io.specs.declared.mem_door.MemDoor.{MemDoor}
use Rattle.edge_io.specs.declared.mem_place.MemPlace.{MemPlace}

-- the place has that name
abbrev pub is_named : List ℕ → MemPlace → Bool
is_named name at = bytes_eq (string_bytes at.place) name

-- the doors that are left at the first place of that name
abbrev pub doors_at : List ℕ → List MemPlace → List MemDoor
doors_at name [] = []
doors_at name (at ∷ places) = if is_named name at then at.doors.items else doors_at name places

-- These doors were bound at that place, one after another, and are else as they were.
abbrev pub AreBoundAs : List ℕ → List MemDoor → List MemDoor → Type 0
AreBoundAs name old new = AllZip (IsBoundAs name) old new

-- the first doors are gone, and no others
abbrev pub LosesDoors : List MemDoor → List MemDoor → Type 0
LosesDoors old new = (n : ℕ) × (new ≡ drop n old)

-- The first of the doors that are left at that place are bound, and no others are gone. After want of memory some of these
-- may be gone.
pub record TakesDoors (name : List ℕ) (count : ℕ) (old new : List MemPlace) (result : Result (Vec MemDoor) AllocError) : Type 0 where
  pub gives : IfOk result (λ bound. AreBoundAs name (take count (doors_at name old)) bound.items)
  pub left : OnOk result (doors_at name new ≡ drop count (doors_at name old))
  pub lost : OnErr result (LosesDoors (doors_at name old) (doors_at name new))
  pub others : (other : List ℕ) → other ≢ name → doors_at other new ≡ doors_at other old
