-- From what the words let become known as confirmed to what is asked of the forwarder.
use Rattle.std.proofs.Common.{ℕ, ◌<◌, ◌≤◌, List, ◌++◌, length, ◌∙◌, ap, arith}
use Rattle.std.specs.Prelude.{Bool, Option, Some, None, IfSome}
use Rattle.edge_disk.specs.declared.disk.Disk.{Ghosts}
use Rattle.edge_disk.specs.Disk.{Moment}
use Rattle.spool_log.specs.declared.memory.Memory.{Memory}
use Rattle.spool_log.specs.State.{view}
use Rattle.desk_access.specs.Division.{DividedRun}
use Rattle.desk_access.specs.Call.{Call, own_of}
use Rattle.desk_access.specs.Desk.{DeskState, Stood}
use Rattle.desk_access.specs.Journal.{own_then}
use Rattle.forward_core.specs.Forwarded.{until_by}
use Rattle.forward_core.specs.declared.outward.Outward.{Outward}
use Rattle.desk_seats.specs.Passes.{Known}
use Rattle.spool_turns.specs.Passes.{Beginning}
use Rattle.desk_seats.specs.Ran.{Ran}
use Rattle.spool_turns.specs.Replays.{IsReal}
use Rattle.serve_forwarder.specs.Released.{HasAsked, MayRelease as ForwarderMay}
use Rattle.bridge_parts.specs.Receivers.{outward_of}
use Rattle.bridge_words.specs.declared.command.Relay.{Relay}
use Rattle.bridge_serve.specs.Doors.{destination_of}
use Rattle.bridge_serve.specs.Opened.{IsOpenedDesk, opened_at, IsOpenedFrom}
use Rattle.bridge_serve.specs.Released.{HasMade, ForwarderMayRelease}
use Rattle.bridge_serve.proofs.Opening.{opened_desk, any_moment}

-- what holds of each holds of the one, if there is one
pub any_some : {A : Type 0} (o : Option A) (P : A → Type 0) → ((x : A) → P x) → IfSome o P
any_some None P all = tt
any_some (Some x) P all = all x

-- what follows from what holds of it, holds of it
pub if_some : {A : Type 0} (o : Option A) (P Q : A → Type 0) → ((x : A) → P x → Q x) → IfSome o P → IfSome o Q
if_some None P Q then is = tt
if_some (Some x) P Q then is = then x is

-- the leave of the words, for the place that is dialed
pub may_release : {D : Type 0} (tells : Type 0) (moment : D → Moment) (given : D) (forward : Option Relay) (At : List ℕ → List ℕ → List ℕ → Type 0)
    (Release : ℕ → Type 0) → IfSome forward (λ relay. ForwarderMayRelease tells moment given (outward_of relay.receiver) (At relay.place) Release)
    → IfSome (destination_of forward) (λ d. ForwarderMayRelease tells moment given d.outward (At d.place) Release)
may_release tells moment given None At Release may = may
may_release tells moment given (Some relay) At Release may = may

-- of a spool that was opened for storing, and of the desk over it
module _ {D : Type 0} (disks : Ghosts D) (given now : D) (memory : Memory) (in_doubt : Bool) (clock : ℕ) (grouped : Bool) (run : DividedRun) (seats : ℕ)
    (from : IsOpenedFrom disks.tells (disks.moment given) (view memory in_doubt (disks.moment now))) (later : disks.tells → (disks.moment given).clock ≤ clock) where
  abbrev start : DeskState → Type 0
  start = IsOpenedDesk disks.tells (disks.moment given).reads

  abbrev began : Beginning
  began = record { moment = opened_at disks.tells (disks.moment given) clock; grouped = grouped }

  -- the state in which it was opened
  began_in : disks.tells → (x : DeskState) × start x
  began_in = opened_desk disks.tells (disks.moment given).reads (view memory in_doubt (disks.moment now)) from.opens

  -- the calls of a pass were made, since its journal is real
  with_real : (pass begun pass' : Known) (first end : ℕ) (calls : List Call) → HasAsked start pass first end begun
      → Ran start begun calls pass' → 0 < length calls → (real : IsReal disks start run seats began pass'.seen)
      → HasMade disks.tells (disks.moment given) (disks.moment real.0.desk.spool.disk) first calls
  with_real pass begun pass' first end calls asked ran some real = record {
    log = pass'.seen;
    led = λ told.
        let x = began_in told in
        let lead = real.1.leads x.0 x.1 in
        let above = ran.lawful some x.0 x.1 in record {
          start = x.0;
          opened = x.1;
          after = above.0;
          goes = above.1;
          any_moment = any_moment disks.tells (disks.moment given) (disks.moment real.0.desk.spool.disk) clock (Stood x.0 pass'.seen) told (later told)
              lead.any_moment;
        };
    known_below = λ told.
        let x = began_in told in
        let above = ran.lawful some x.0 x.1 in
        omega (arith, above.3, asked.cursor, asked.end_ran.cursor_known);
    caller = begun.number;
    earlier = own_of begun.number begun.seen;
    own = ap (own_of begun.number) ran.seen ∙ own_then begun.number begun.seen ran.between
        ∙ ap (λ (l : List Call). own_of begun.number begun.seen ++ l) ran.own_between;
  }

  -- what the server may make known, the forwarder may that was told so
  pub forwarder_may : (outward : Outward) (Exchanged : List ℕ → List ℕ → Type 0) (Release : ℕ → Type 0)
      → ForwarderMayRelease disks.tells (λ (d : D). disks.moment d) given outward Exchanged Release
      → ForwarderMay (IsReal disks start run seats began) start outward Exchanged Release
  forwarder_may outward Exchanged Release may pass begun pass' upto first end bytes calls text n asked ran some real exchanged acknowledged =
      may real.0.desk.spool.disk n (record {
        start = first;
        until = until_by upto end;
        bytes = bytes;
        calls = calls;
        text = text;
        exchanged = exchanged;
        made = with_real pass begun pass' first end calls asked ran some real;
        acknowledged = acknowledged;
      })
