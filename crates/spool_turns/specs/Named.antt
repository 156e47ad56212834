-- A desk that has no name yet, and what its name says of it.
use Rattle.std.specs.Prelude.{◌≡◌, ℕ}
use Rattle.edge_disk.specs.declared.disk.Disk.{Ghosts}
use Rattle.edge_disk.specs.Disk.{Moment}
use Rattle.desk_access.specs.Division.{DividedRun}
use Rattle.desk_access.specs.Desk.{DeskState}
use Rattle.spool_desk.specs.Alone.{alone_at, IsAt}
use Rattle.spool_turns.specs.declared.unnamed.Unnamed.{Unnamed}
use Rattle.spool_turns.specs.Passes.{Tables, Beginning}
use Rattle.spool_turns.specs.Replays.{BeganAt}

-- its tables of seats
abbrev pub table_of : {D : Type 0} {disks : Ghosts D} → Unnamed D disks → Tables
table_of u = record { seats = u.table.shared.table_id; twins = u.twins.shared.table_id }

-- the states that the desk may be in, where its disk tells its bytes
abbrev pub start_of : {D : Type 0} {disks : Ghosts D} → Unnamed D disks → DeskState → Type 0
start_of {disks = disks} u x = disks.tells × IsAt x (alone_at u.alone)

-- the moment of its disk
abbrev pub moment_of : {D : Type 0} {disks : Ghosts D} → Unnamed D disks → Moment
moment_of {disks = disks} u = disks.moment u.alone.desk.spool.disk

-- The name has the desk's tables of seats and its run; each state that it says the desk began in is one that the desk may
-- be in, and so is the moment of the disk.
pub record IsName {D : Type 0} {disks : Ghosts D} (table : Tables) (run : DividedRun) (start : DeskState → Type 0) (began : Beginning) (u : Unnamed D disks) : Type 0 where
  pub table_is : table_of u ≡ table
  pub run_is : u.run ≡ run.number
  pub start_is : (x : DeskState) → start x → start_of u x
  pub began_is : BeganAt began.moment (moment_of u)
