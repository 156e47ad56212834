-- What the type of what serving leaves holds.
use Rattle.std.specs.Prelude.{map}
use Rattle.edge_disk.specs.declared.disk.Disk.{Ghosts}
use Rattle.edge_io.specs.Door.{DoorState}
use Rattle.edge_io.specs.Net.{NetState}
use Rattle.desk_access.specs.Desk.{DeskState}
use Rattle.spool_turns.specs.Replays.{desk_at}
use Rattle.serve_run.specs.Running.{Given, left_as}
use Rattle.serve_desk.specs.declared.serving.Served.{Served}
use Rattle.serve_desk.specs.Serving.{Seating, HasServed}

-- `HasServed` of it, by what a door tells and what the net tells then
abbrev pub IsServed : {P D L : Type 0} {disks : Ghosts D} → (P → DoorState) → (DeskState → Type 0) → Seating → Given → NetState → Served P D L disks → Type 0
IsServed {disks = disks} told start seating given net served =
    HasServed disks.tells start seating given (left_as (map told served.doors.items) served.reports.items net served.last) (desk_at served.desk)
