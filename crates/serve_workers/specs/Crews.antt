-- What the workers of a server do, each at its door.
use Rattle.std.specs.Prelude.{◌≡◌, ℕ, ◌+◌, ◌<◌, ◌≤◌, List, [], ◌∷◌, Some, length, slice_get, slice_index_or, vec_len}
use Rattle.std.specs.Global.{Vec}
use Rattle.std.specs.Vec.{vec_capacity}
use Rattle.edge_io.specs.Door.{DoorState}
use Rattle.desk_access.specs.Desk.{DeskState}
use Rattle.desk_access.specs.Division.{DividedRun, callers_of}
use Rattle.conn_serve.specs.declared.rules.Rules.{Rules}
use Rattle.desk_seats.specs.Passes.{Known}
use Rattle.serve_workers.specs.declared.worker.WorkerReport.{WorkerReport}
use Rattle.serve_workers.specs.Works.{Posted, Dismissed, Worked}

-- passes that have made no call, numbered from this number on
abbrev pub AreNew : ℕ → List Known → Type 0
AreNew number [] = Unit {0}
AreNew number (pass ∷ passes) = (pass.number ≡ number) × (pass.own ≡ []) × AreNew (number + 1) passes

-- the worker of that number, one of those among whom the run's numbers are divided, has this pass, whose number is the same
abbrev pub IsAtDesk : DividedRun → ℕ → Known → Type 0
IsAtDesk run number pass = (number ≡ pass.number) × (number < callers_of run.division)

-- so it has, and the pass has made no call
abbrev pub IsReady : DividedRun → ℕ → Known → Type 0
IsReady run number pass = (number ≡ pass.number) × (number < callers_of run.division) × (pass.own ≡ [])

-- an empty list with room for so many items
abbrev pub IsRoom : {X : Type 0} → ℕ → Vec X → Type 0
IsRoom many v = (v.items ≡ []) × (vec_len v ≡ 0) × (many ≤ vec_capacity v)

-- what is at a place of the one list and what is there of the other are so related, at each place
abbrev pub Each : {X : Type 0} → (X → X → Type 0) → List X → List X → Type 0
Each {X} Is xs ys = (k : ℕ) (d : X) → k < length xs → Is (slice_index_or xs k d) (slice_index_or ys k d)

-- Workers in their order: the rules of each, what its door reports, and what its pass knows.
pub record Roster : Type 0 where
  pub rules : List Rules
  pub doors : List DoorState
  pub passes : List Known

abbrev pub roster_as : List Rules → List DoorState → List Known → Roster
roster_as rules doors passes = record { rules = rules; doors = doors; passes = passes }

-- What workers leave, in their order: what the door of each reports, what its pass knows, and its report.
pub record Returned : Type 0 where
  pub doors : List DoorState
  pub passes : List Known
  pub reports : List WorkerReport

abbrev pub returned_as : List DoorState → List Known → List WorkerReport → Returned
returned_as doors passes reports = record { doors = doors; passes = passes; reports = reports }

-- the worker at that place
abbrev pub IsPostedAt : ℕ → Roster → Posted → Type 0
IsPostedAt k roster posted =
    (slice_get roster.rules k ≡ Some posted.rules) × (slice_get roster.doors k ≡ Some posted.door) × (slice_get roster.passes k ≡ Some posted.pass)

-- the same of what it leaves
abbrev pub IsDismissedAt : ℕ → Returned → Dismissed → Type 0
IsDismissedAt k returned dismissed =
    (slice_get returned.doors k ≡ Some dismissed.door) × (slice_get returned.passes k ≡ Some dismissed.pass)
    × (slice_get returned.reports k ≡ Some dismissed.report)

-- Each worker has ended, and did what `Worked` says.
abbrev pub HaveWorked : (DeskState → Type 0) → DividedRun → ℕ → Roster → Returned → Type 0
HaveWorked start run talks roster returned =
    (k : ℕ) (posted : Posted) (dismissed : Dismissed) → IsPostedAt k roster posted → IsDismissedAt k returned dismissed
    → Worked start run talks posted dismissed
