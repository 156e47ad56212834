-- What calls over a disk say of its length and of its count of faults.
use Rattle.std.specs.Prelude.{◌≡◌, ◌≤◌}
use Rattle.foundation.specs.Faults.{Rose}
use Rattle.edge_disk.specs.Disk.{Moment}

-- The disk's length stays, and its count of faults never falls. Where a fault of the disk is answered, the
-- count rose; where none is, it is what it was, so no call of the disk failed.
pub record Calls (fault : Type 0) (old new : Moment) : Type 0 where
  pub size : new.size ≡ old.size
  pub later : old.faults ≤ new.faults
  pub cause : fault → Rose 1 old.faults new.faults
  pub quiet : (fault → ⊥) → new.faults ≡ old.faults
