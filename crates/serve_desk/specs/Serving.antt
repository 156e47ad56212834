-- What serving over a desk did, from the desk that was opened to the desk that comes back.
use Rattle.std.specs.Prelude.{◌≡◌, ℕ, List, [], ◌∷◌, ◌++◌, length}
use Rattle.desk_access.specs.Division.{DividedRun}
use Rattle.desk_access.specs.Call.{Record}
use Rattle.desk_access.specs.Desk.{DeskState}
use Rattle.desk_seats.specs.Passes.{Known}
use Rattle.spool_desk.specs.Alone.{AloneView}
use Rattle.spool_turns.specs.Passes.{Beginning}
use Rattle.spool_turns.specs.Replays.{Closes}
use Rattle.serve_workers.specs.Crews.{AreNew, HaveWorked, roster_as, returned_as}
use Rattle.serve_forwarder.specs.Looks.{forwarder_at}
use Rattle.serve_run.specs.Running.{Forwarded, Given, Left}

-- The run by which a desk was opened, how many have a seat at it, and how it began.
pub record Seating : Type 1 where
  pub run : DividedRun
  pub seats : ℕ
  pub began : Beginning

abbrev pub seating_as : DividedRun → ℕ → Beginning → Seating
seating_as run seats began = record { run = run; seats = seats; began = began }

-- One journal of all calls led to the desk that comes back. Each worker's part of it is the calls of the links that it served at its
-- door. The part of the forwarder, whose pass has the greatest number, is the calls of its looks. All lists are in the order of the
-- workers.
pub record HasServed (tells : Type 0) (start : DeskState → Type 0) (seating : Seating) (given : Given) (left : Left) (new : AloneView) : Type 0 where
  pub log : List Record
  pub workers : List Known
  pub workers' : List Known
  pub forwarder : Known
  pub forwarder' : Known
  pub fresh : AreNew 0 (workers ++ forwarder ∷ [])
  pub count : (length workers ≡ length given.rules) × (length workers' ≡ length given.rules)
  pub closes : Closes tells start seating.run seating.seats seating.began log (workers' ++ forwarder' ∷ []) new
  pub worked : HaveWorked start seating.run given.talks (roster_as given.rules given.doors workers) (returned_as left.doors workers' left.reports)
  pub forwarded : Forwarded start given.destination workers' (forwarder_at forwarder given.net) (forwarder_at forwarder' left.net) left.last

-- No call was made on the desk.
abbrev pub HasNotServed : Type 0 → (DeskState → Type 0) → Seating → AloneView → Type 0
HasNotServed tells start seating new = (passes : List Known) × Closes tells start seating.run seating.seats seating.began [] passes new
