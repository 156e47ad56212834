-- What follows of a run of the server, and of any closed journal with such parts.
use Rattle.std.specs.Prelude.{◌≡◌, ℕ, ◌<◌, ◌≤◌, List, [], ◌++◌, length, Some}
use Rattle.std.specs.List.{All, sum_by}
use Rattle.event_form.specs.declared.event.Entry.{Entry}
use Rattle.edge_io.specs.Door.{Talked}
use Rattle.spool_state.specs.Image.{StandsFor}
use Rattle.spool_state.specs.SpoolState.{SpoolState, list}
use Rattle.spool_desk.specs.Alone.{AloneView}
use Rattle.desk_access.specs.Division.{DividedRun, callers_of, each_of}
use Rattle.desk_access.specs.Call.{Record, calls_of, failures_of}
use Rattle.desk_access.specs.Desk.{DeskState, Goes}
use Rattle.desk_access.specs.History.{AddsAll}
use Rattle.desk_access.specs.Legal.{of_conn}
use Rattle.desk_seats.specs.Passes.{Known}
use Rattle.spool_turns.specs.Replays.{Closes}
use Rattle.spool_turns.specs.Whole.{OpensLegal}
use Rattle.serve_run.specs.Running.{Given, Left}
use Rattle.serve_desk.specs.Serving.{Seating}
use Rattle.serve_laws.specs.Runs.{ServerRun}
use Rattle.serve_laws.specs.Parts.{Part, WorkerDoor, links_of, IsPart, AreParts}
use Rattle.serve_laws.specs.Faults.{CountsEnded}
use Rattle.serve_laws.specs.Durable.{IsLinkDurable, IsTalkDurable}
use Rattle.serve_laws.specs.Contributes.{Contributes, BeginsInOrder, KeepsOrder, IsOfParts, taken_over, EndRises}
use Rattle.serve_laws.specs.Leaves.{IsDone, LeavesNone, NoneIsLeftOn}

-- ---- of a run

-- A run has a part for each worker.
abbrev pub WorkersHaveParts : Type 0 → (DeskState → Type 0) → Seating → AloneView → Type 0
WorkersHaveParts tells start seating new =
    (r : ServerRun tells start seating new) → (parts : List Part) × AreParts seating.run r.served.log r.given r.left parts

-- Each entry that its journal added is of a link of one of its parts.
abbrev pub NothingElseIsAdded : Type 0 → (DeskState → Type 0) → Seating → AloneView → Type 0
NothingElseIsAdded tells start seating new =
    (r : ServerRun tells start seating new) (parts : List Part) → AreParts seating.run r.served.log r.given r.left parts
    → (added : List Entry) → AddsAll (calls_of r.served.log) added → All (IsOfParts parts) added

-- The end of the spool rises by as many as entries were taken from its links, where no call was answered that the disk failed, and
-- else by no fewer.
abbrev pub EndCountsEntries : Type 0 → (DeskState → Type 0) → Seating → AloneView → Type 0
EndCountsEntries tells start seating new =
    (r : ServerRun tells start seating new) (parts : List Part) → AreParts seating.run r.served.log r.given r.left parts
    → (x y : DeskState) → start x → x.doubt ≡ [] → Goes x r.served.log y → EndRises x y (failures_of (calls_of r.served.log)) (taken_over parts)

-- Where its last look found nothing pending, or held a session that ended as `Drained`, nothing is left.
abbrev pub NothingIsLeft : Type 0 → (DeskState → Type 0) → Seating → AloneView → Type 0
NothingIsLeft tells start seating new =
    (r : ServerRun tells start seating new) → IsDone r.left.last
    → LeavesNone start r.served.log × ((x : DeskState) → start x → NoneIsLeftOn new.spool.moment)

-- ---- of a part of a closed journal

-- Whatever is acknowledged over a link of a part is durable.
abbrev pub AcknowledgedIsDurable : Type 0 → (DeskState → Type 0) → Seating → AloneView → Type 0
AcknowledgedIsDurable tells start seating new =
    (log : List Record) (passes : List Known) → Closes tells start seating.run seating.seats seating.began log passes new
    → (talks : ℕ) (at : WorkerDoor) (part : Part) → IsPart seating.run talks log at part
    → (x : DeskState) → start x → All (IsLinkDurable log at.number new.spool.moment at.rules) (links_of part)

-- So it is of each connection that its door reports, by what was written to it.
abbrev pub DoorsTellDurable : Type 0 → (DeskState → Type 0) → Seating → AloneView → Type 0
DoorsTellDurable tells start seating new =
    (log : List Record) (passes : List Known) → Closes tells start seating.run seating.seats seating.began log passes new
    → (talks : ℕ) (at : WorkerDoor) (part : Part) → IsPart seating.run talks log at part
    → (x : DeskState) → start x → (before : List Talked) → at.old.talks ≡ Some before
    → (more : List Talked) × (at.new.talks ≡ Some (before ++ more)) × All (IsTalkDurable log at.number new.spool.moment at.rules) more

-- The connection of each link of a part contributes exactly what was taken of it, in order.
abbrev pub ConnectionsContribute : Type 0 → (DeskState → Type 0) → Seating → AloneView → Type 0
ConnectionsContribute tells start seating new =
    (log : List Record) (passes : List Known) → Closes tells start seating.run seating.seats seating.began log passes new
    → (talks : ℕ) (at : WorkerDoor) (part : Part) → IsPart seating.run talks log at part
    → at.number < callers_of seating.run.division → talks ≤ each_of seating.run.division
    → (x : DeskState) → start x → (added : List Entry) → AddsAll (calls_of log) added
    → All (λ one. Contributes one (of_conn one.conn added)) (links_of part)

-- Where the desk was given with a legal list of entries of earlier runs, whatever a crash leaves now keeps the order of each link of
-- a part, and is such a list for the next run.
abbrev pub OrderIsKept : Type 0 → (DeskState → Type 0) → Seating → AloneView → Type 0
OrderIsKept tells start seating new =
    (log : List Record) (passes : List Known) → Closes tells start seating.run seating.seats seating.began log passes new
    → (talks : ℕ) (at : WorkerDoor) (part : Part) → IsPart seating.run talks log at part
    → at.number < callers_of seating.run.division → talks ≤ each_of seating.run.division
    → (x : DeskState) → start x → OpensLegal x → (c : List ℕ) → new.spool.moment.image c
    → (s : SpoolState) × StandsFor s c × KeepsOrder seating.run.number log (links_of part) s

-- Whatever a crash left since the desk was given has of each link a beginning of what it contributed, in order.
abbrev pub OrderWasKept : Type 0 → (DeskState → Type 0) → Seating → AloneView → Type 0
OrderWasKept tells start seating new =
    (log : List Record) (passes : List Known) → Closes tells start seating.run seating.seats seating.began log passes new
    → (talks : ℕ) (at : WorkerDoor) (part : Part) → IsPart seating.run talks log at part
    → at.number < callers_of seating.run.division → talks ≤ each_of seating.run.division
    → (x : DeskState) → start x → OpensLegal x → (c : List ℕ) → new.spool.moment.image_since seating.began.moment.clock c
    → (s : SpoolState) × StandsFor s c × All (λ one. BeginsInOrder one (list s)) (links_of part)

-- ---- of all parts

-- The disk's count of faults rose by at least as many as links ended because the disk failed: of all parts together, or of any one part
-- where takes of several callers may be stored as one group.
abbrev pub DiskFaultsAreCounted : Type 0 → (DeskState → Type 0) → Seating → AloneView → Type 0
DiskFaultsAreCounted tells start seating new =
    (log : List Record) (passes : List Known) → Closes tells start seating.run seating.seats seating.began log passes new
    → (given : Given) (left : Left) (parts : List Part) → AreParts seating.run log given left parts
    → CountsEnded seating.began.grouped parts seating.began.moment.faults new.spool.moment.faults

-- As many links were given back as the workers report in all.
abbrev pub ReportsCountLinks : Type 0
ReportsCountLinks =
    (run : DividedRun) (log : List Record) (given : Given) (left : Left) (parts : List Part) → AreParts run log given left parts
    → sum_by (λ report. report.finished) left.reports ≡ sum_by (λ part. length part.links.finished) parts
