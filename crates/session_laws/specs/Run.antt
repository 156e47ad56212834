-- The sessions of a run of the server.
use Rattle.std.specs.Prelude.{◌≡◌, ◌+◌, ◌-◌, [], ◌∷◌, ◌++◌, length, Some}
use Rattle.spool_state.specs.SpoolState.{SpoolState}
use Rattle.spool_answers.specs.Stages.{IsOneOf}
use Rattle.spool_desk.specs.Alone.{AloneView}
use Rattle.desk_access.specs.Call.{own_of}
use Rattle.desk_access.specs.Desk.{DeskState, Goes}
use Rattle.serve_forwarder.specs.Looks.{calls_of}
use Rattle.serve_forwarder.specs.declared.destination.Destination.{Destination}
use Rattle.serve_run.specs.Running.{Given, Left}
use Rattle.serve_desk.specs.Serving.{HasServed, Seating}
use Rattle.session_laws.specs.Beside.{MarksAlone}
use Rattle.session_laws.specs.Sessions.{SentBeside}

-- what a run is given that forwards to this destination
abbrev pub forwarding_to : Destination → Given → Given
forwarding_to destination given = record given { destination = Some destination }

-- In a run of the server that forwards, the sessions of all looks were held one after another over the one whole list. The forwarder's
-- calls are those of its looks, and nobody else marked or confirmed: the marks of the journal are those of its sessions.
abbrev pub SessionsOfRun : Type 0 → (DeskState → Type 0) → Seating → AloneView → Type 0
SessionsOfRun tells start seating new =
    (given : Given) (left : Left) (destination : Destination)
    (run_of : HasServed tells start seating (forwarding_to destination given) left new) → seating.seats ≡ length given.rules + 1
    → (x y : DeskState) (t : SpoolState) → start x → Goes x run_of.log y → IsOneOf y.spool y.doubt t
    → let looks = run_of.forwarded.2.looks ++ run_of.forwarded.2.look ∷ [] in
    SentBeside destination.outward x looks run_of.log t × (own_of (seating.seats - 1) run_of.log ≡ calls_of looks)
    × MarksAlone (seating.seats - 1) run_of.log
