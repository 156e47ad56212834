-- What one journal and the doors have of each worker.
use Rattle.std.specs.Prelude.{◌≡◌, ℕ, ◌+◌, ◌≤◌, List, [], ◌∷◌, length, map}
use Rattle.edge_io.specs.Door.{DoorState}
use Rattle.desk_access.specs.Division.{DividedRun, first_conn}
use Rattle.desk_access.specs.Call.{Record, own_of}
use Rattle.conn_serve.specs.declared.rules.Rules.{Rules}
use Rattle.conn_serve.specs.Endings.{CountsFaults}
use Rattle.serve_workers.specs.declared.worker.WorkerEnd.TheVariants.{AcceptFault}
use Rattle.serve_workers.specs.declared.worker.WorkerReport.{WorkerReport}
use Rattle.serve_workers.specs.Served.{Served, AtDoor, Links, links_in}
use Rattle.serve_workers.specs.Works.{EndsBy}
use Rattle.serve_run.specs.Running.{Given, Left}

-- The part of a worker: the links that it served, those that it gave back and after them the one that no memory was found to give
-- back, if any; and its report.
pub record Part : Type 0 where
  pub links : Links
  pub report : WorkerReport

-- all its links, in order
abbrev pub links_of : Part → List Served
links_of part = links_in part.links

-- A worker's number and rules, and what its door told before and after.
pub record WorkerDoor : Type 0 where
  pub number : ℕ
  pub rules : Rules
  pub old : DoorState
  pub new : DoorState

abbrev pub worker_door : ℕ → Rules → DoorState → DoorState → WorkerDoor
worker_door number rules old new = record { number = number; rules = rules; old = old; new = new }

-- The part of a worker in the journal and at its door. It served its links one after another, each to its end, and the calls that the
-- journal has of its number are those of its links, in order, and no others.
pub record IsPart (run : DividedRun) (talks : ℕ) (log : List Record) (at : WorkerDoor) (part : Part) : Type 0 where
  pub at_door : AtDoor at.rules (first_conn run at.number) at.old at.new (λ calls. own_of at.number log ≡ calls) part.links
  pub many : length (links_of part) ≤ talks
  pub ends : EndsBy (length part.links.finished ≡ talks) at.new (length part.links.late) part.report.end
  pub accept_faults : CountsFaults (part.report.end ≡ AcceptFault) at.old.accept_faults at.new.accept_faults
  pub finished : part.report.finished ≡ length part.links.finished

-- So it is of each part, with its worker's number, rules and door, where the workers are numbered from this number on. All lists have
-- one length, and the workers' order.
abbrev pub EachPart : (WorkerDoor → Part → Type 0) → ℕ → List Rules → List DoorState → List DoorState → List Part → Type 0
EachPart P number [] [] [] [] = Unit {0}
EachPart P number (rules ∷ more) (old ∷ doors) (new ∷ doors') (part ∷ parts) =
    P (worker_door number rules old new) part × EachPart P (number + 1) more doors doors' parts
EachPart P number more doors doors' parts = ⊥

-- One part for each worker, in the workers' order, of what a run was given and left.
pub record AreParts (run : DividedRun) (log : List Record) (given : Given) (left : Left) (parts : List Part) : Type 0 where
  pub each : EachPart (IsPart run given.talks log) 0 given.rules given.doors left.doors parts
  pub reports : left.reports ≡ map (λ part. part.report) parts
