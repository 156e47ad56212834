-- The last look of a run.
use Rattle.std.specs.Prelude.{◌≡◌, ℕ, ◌-◌, ◌<◌, ◌≤◌, List, [], ◌++◌, length, All, None, Some, Result, Ok, Err}
use Rattle.spool_state.specs.SpoolState.{end}
use Rattle.spool_faults.specs.declared.fault.PendFault.{PendFault}
use Rattle.spool_answers.specs.declared.numbered.Numbered.{Numbered}
use Rattle.spool_desk.specs.Alone.{AloneView}
use Rattle.desk_access.specs.Call.{Call, Record, calls_of}
use Rattle.desk_access.specs.Desk.{DeskState, Goes}
use Rattle.serve_forwarder.specs.Sessions.{Session}
use Rattle.serve_forwarder.specs.Looks.{Found, Idle, Unread, Undialed, Held, Look, forwarder_at, held_in, calls_at, IsPending}
use Rattle.serve_run.specs.Running.{Forwarded}
use Rattle.serve_desk.specs.Serving.{Seating}
use Rattle.serve_laws.specs.Runs.{ServerRun}

-- The journal ends with these calls of that caller: after the first of them stands no other caller's record.
pub record EndsWith (number : ℕ) (calls : List Call) (log : List Record) : Type 0 where
  pub before : List Record
  pub ending : List Record
  pub parts : log ≡ before ++ ending
  pub by : All (λ one. one.by ≡ number) ending
  pub are : calls_of ending ≡ calls

-- What came of a look, by the answer to its question: nothing is pending; or the desk refused, for that reason; or an entry is
-- pending, and then the dial failed, or a session was held.
abbrev pub IsFoundBy : Result (List Numbered) PendFault → Found → Type 0
IsFoundBy given Idle = given ≡ Ok []
IsFoundBy given (Unread fault) = given ≡ Err fault
IsFoundBy given (Undialed _) = IsPending given
IsFoundBy given (Held one) = IsPending given

-- A session was to send all entries up to this end of the list: its own end isn't below that, and is the same if it made a call.
abbrev pub SendsUpTo : ℕ → Session → Type 0
SendsUpTo upto one = (upto ≤ one.until) × (0 < length one.calls → one.until ≡ upto)

-- The look is the last of all: its calls are the last ones of the journal, and what came of it follows from the answer to the first. A
-- session that it held was to send all entries up to the end to which the journal led.
pub record IsLastOfAll (start : DeskState → Type 0) (number : ℕ) (log : List Record) (look : Look) : Type 0 where
  pub ends : EndsWith number (calls_at look) log
  pub answered : IsFoundBy look.given look.found
  pub to_end : (x y : DeskState) → start x → Goes x log y → All (SendsUpTo (end y.spool)) (held_in look.found)

-- So it is of the last look of a run's forwarder, where there is a place to forward to.
abbrev pub LooksLast : {tells : Type 0} {start : DeskState → Type 0} {seating : Seating} {new : AloneView} → ServerRun tells start seating new → Type 0
LooksLast {start = start} {seating = seating} r =
    elim r.given.destination as (λ destination. Forwarded start destination r.served.workers' (forwarder_at r.served.forwarder r.given.net)
    (forwarder_at r.served.forwarder' r.left.net) r.left.last → Type 0) [
      | None ↦ λ none. Unit {0}
      | Some destination ↦ λ forwarded. IsLastOfAll start (seating.seats - 1) r.served.log forwarded.2.look
    ] r.served.forwarded

-- So it is in a run of the server: as the forwarder looks for the last time it has seen all that the workers did, and they do no more.
abbrev pub LastLookIsLast : Type 0 → (DeskState → Type 0) → Seating → AloneView → Type 0
LastLookIsLast tells start seating new = (r : ServerRun tells start seating new) → LooksLast r
