-- What a run of the server did.
use Rattle.std.specs.Prelude.{◌≡◌, ℕ, List, [], ◌∷◌, ◌++◌, length, map, All, Option, None, Some}
use mathlib.Core.List.{IsPrefix}
use Rattle.edge_io.specs.Door.{DoorState}
use Rattle.edge_io.specs.Net.{NetState}
use Rattle.desk_access.specs.Division.{DividedRun}
use Rattle.desk_access.specs.Desk.{DeskState}
use Rattle.conn_serve.specs.declared.rules.Rules.{Rules}
use Rattle.desk_seats.specs.Passes.{Known}
use Rattle.serve_workers.specs.declared.crew.Post.{Post}
use Rattle.serve_workers.specs.declared.worker.WorkerReport.{WorkerReport}
use Rattle.serve_workers.specs.Crews.{AreNew, HaveWorked, roster_as, returned_as}
use Rattle.serve_run.specs.declared.running.CrewAndLook.{CrewAndLook}
use Rattle.serve_forwarder.specs.declared.destination.Destination.{Destination}
use Rattle.serve_forwarder.specs.declared.looking.Outcome.{Outcome}
use Rattle.serve_forwarder.specs.Looks.{Every, Forwarder, Look, IsLook, AreInTurn, AreLooks, forwarder_at, outcome_of}

-- A pass has seen what it had seen before and what these others have seen. It made no call for that.
pub record HasMet (others : List Known) (pass pass' : Known) : Type 0 where
  pub number : pass'.number ≡ pass.number
  pub own : pass'.own ≡ pass.own
  pub seen : IsPrefix pass.seen pass'.seen
  pub each : All (λ (other : Known). IsPrefix other.seen pass'.seen) others

-- The forwarder's pass was shown all that these passes have seen. Then it looked, at all that was pending, and `last` came of that.
abbrev pub LooksLast : (DeskState → Type 0) → Destination → List Known → Forwarder → Forwarder → Outcome → Type 0
LooksLast start destination workers old new last =
    (met : Known) × (look : Look) × HasMet workers old.pass met
    × IsLook start destination look (forwarder_at met old.net) new × (look.offer ≡ Every) × (last ≡ outcome_of look.found)

-- The forwarder looked beside the workers, again and again. Once they had ended, and it had seen all that they had seen, it looked
-- once more, at all that was pending, and `last` came of that.
pub record HasForwarded (start : DeskState → Type 0) (destination : Destination) (workers : List Known) (old new : Forwarder) (last : Outcome) : Type 0 where
  pub looks : List Look
  pub beside : Forwarder
  pub looked : AreLooks start destination looks old beside
  pub in_turn : AreInTurn None looks
  pub met : Known
  pub has_met : HasMet workers beside.pass met
  pub look : Look
  pub looked_last : IsLook start destination look (forwarder_at met beside.net) new
  pub every : look.offer ≡ Every
  pub last_is : last ≡ outcome_of look.found

-- So it is where there is a destination. Where there is none it made no call, and the net is as it was.
abbrev pub Forwarded : (DeskState → Type 0) → Option Destination → List Known → Forwarder → Forwarder → Option Outcome → Type 0
Forwarded start None workers old new last = (new.pass.number ≡ old.pass.number) × (new.pass.own ≡ []) × (new.net ≡ old.net) × (last ≡ None)
Forwarded start (Some destination) workers old new last =
    (outcome : Outcome) × (last ≡ Some outcome) × HasForwarded start destination workers old new outcome

-- What a run is given: how many links each worker serves at most, the rules and the doors in the order of the workers, the destination,
-- if there is one, and the net.
pub record Given : Type 0 where
  pub talks : ℕ
  pub rules : List Rules
  pub doors : List DoorState
  pub destination : Option Destination
  pub net : NetState

abbrev pub given_as : ℕ → List Rules → List DoorState → Option Destination → NetState → Given
given_as talks rules doors destination net = record { talks = talks; rules = rules; doors = doors; destination = destination; net = net }

-- the same of posts, each of which has its rules and its door, where a door tells this
abbrev pub given_by : {P L : Type 0} → (P → DoorState) → ℕ → List (Post P L) → Option Destination → NetState → Given
given_by told talks posts destination net = given_as talks (map (λ post. post.rules) posts) (map (λ post. told post.door) posts) destination net

-- What it leaves: the doors and the reports in the order of the workers, the net, and what came of the last look, if there was one.
pub record Left : Type 0 where
  pub doors : List DoorState
  pub reports : List WorkerReport
  pub net : NetState
  pub last : Option Outcome

abbrev pub left_as : List DoorState → List WorkerReport → NetState → Option Outcome → Left
left_as doors reports net last = record { doors = doors; reports = reports; net = net; last = last }

-- the same of the crew and the last look, by what a door tells and what the net tells then
abbrev pub left_by : {P S L K : Type 0} → (P → DoorState) → CrewAndLook P S L K → NetState → Left
left_by told ran net = left_as (map told ran.crew.doors.items) ran.crew.reports.items net ran.last

-- What the workers and the forwarder did. The lists of passes are in the order of the workers; the forwarder's pass comes after theirs.
pub record HasRun (start : DeskState → Type 0) (run : DividedRun) (given : Given) (left : Left) (passes passes' : List Known) : Type 0 where
  pub workers : List Known
  pub workers' : List Known
  pub forwarder : Known
  pub forwarder' : Known
  pub before : passes ≡ workers ++ forwarder ∷ []
  pub after : passes' ≡ workers' ++ forwarder' ∷ []
  pub count : (length workers ≡ length given.rules) × (length workers' ≡ length given.rules)
  pub worked : HaveWorked start run given.talks (roster_as given.rules given.doors workers) (returned_as left.doors workers' left.reports)
  pub forwarded : Forwarded start given.destination workers' (forwarder_at forwarder given.net) (forwarder_at forwarder' left.net) left.last
