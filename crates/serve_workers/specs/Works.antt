-- What a worker does at its door.
use Rattle.std.specs.Prelude.{◌≡◌, ℕ, ◌≤◌, List, [], ◌∷◌, length}
use Rattle.edge_io.specs.Told.{IsToldAs}
use Rattle.edge_io.specs.Door.{DoorState}
use Rattle.desk_access.specs.Division.{DividedRun, first_conn}
use Rattle.desk_access.specs.Call.{Call, failures_of}
use Rattle.desk_access.specs.Desk.{DeskState}
use Rattle.conn_serve.specs.declared.rules.Rules.{Rules}
use Rattle.conn_serve.specs.Endings.{CountsFaults}
use Rattle.desk_seats.specs.Passes.{Known}
use Rattle.desk_seats.specs.Ran.{Ran}
use Rattle.serve_workers.specs.declared.worker.WorkerEnd.{WorkerEnd}
use Rattle.serve_workers.specs.declared.worker.WorkerEnd.TheVariants.{Shut, Enough, AcceptFault, NoMemory}
use Rattle.serve_workers.specs.declared.worker.WorkerReport.{WorkerReport}
use Rattle.serve_workers.specs.Served.{Served, Links, AtDoor, links_as, links_in, calls_in, how_many, by_disk}

-- the next link was accepted, served as the connection of that number, and given back
abbrev pub ServesLink : Rules → ℕ → DoorState → DoorState → (List Call → Type 0) → Type 0
ServesLink rules conn old new made = (one : Served) × AtDoor rules conn old new made (links_as (one ∷ []) []) × (new.accept_faults ≡ old.accept_faults)

-- Why a worker ends. `late` is the number of links that it served and didn't give back. Its door is shut for good, and no link waits;
-- it served as many links as it was to; an accept failed; or no memory was found to give a link back, and that link is the late one.
abbrev pub EndsBy : Type 0 → DoorState → ℕ → WorkerEnd → Type 0
EndsBy enough door late Shut = (late ≡ 0) × IsToldAs door.waiting 0
EndsBy enough door late Enough = (late ≡ 0) × enough
EndsBy enough door late AcceptFault = late ≡ 0
EndsBy enough door late NoMemory = late ≡ 1

-- no next link was given back: none was accepted, or one was and no memory was found to give it back
pub record Stops (rules : Rules) (conn : ℕ) (old new : DoorState) (made : List Call → Type 0) (end : WorkerEnd) : Type 0 where
  pub late : List Served
  pub at_door : AtDoor rules conn old new made (links_as [] late)
  pub ends : EndsBy ⊥ new (length late) end
  pub accept_faults : CountsFaults (end ≡ AcceptFault) old.accept_faults new.accept_faults

-- A worker before it begins: its rules, what its door tells, and what its pass knows.
pub record Posted : Type 0 where
  pub rules : Rules
  pub door : DoorState
  pub pass : Known

abbrev pub posted_as : Rules → DoorState → Known → Posted
posted_as rules door pass = record { rules = rules; door = door; pass = pass }

-- A worker after it has ended: what its door tells, what its pass knows, and what it reports.
pub record Dismissed : Type 0 where
  pub door : DoorState
  pub pass : Known
  pub report : WorkerReport

abbrev pub dismissed_as : DoorState → Known → WorkerReport → Dismissed
dismissed_as door pass report = record { door = door; pass = pass; report = report }

-- A worker whose pass had made no call has ended. It accepted at most `talks` links and served each to its end, as connections
-- numbered in order from its first one on. It gave back the finished ones, and reports how many they are. The pass's calls are those
-- of the links, joined. A link that no memory was found to give back is late, and its calls come after the others'.
pub record Worked (start : DeskState → Type 0) (run : DividedRun) (talks : ℕ) (posted : Posted) (dismissed : Dismissed) : Type 0 where
  pub links : Links
  pub count : dismissed.report.finished ≡ length links.finished
  pub at_door : AtDoor posted.rules (first_conn run posted.pass.number) posted.door dismissed.door (λ calls. Ran start posted.pass calls dismissed.pass) links
  pub many : length (links_in links) ≤ talks
  pub ends : EndsBy (length links.finished ≡ talks) dismissed.door (length links.late) dismissed.report.end
  pub accept_faults : CountsFaults (dismissed.report.end ≡ AcceptFault) posted.door.accept_faults dismissed.door.accept_faults
  -- no more connections ended because the disk failed than calls of the pass were answered so
  pub disk_faults : how_many by_disk (links_in links) ≤ failures_of (calls_in (links_in links))
