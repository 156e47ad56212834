-- From what the words let be reported to what is asked of the forwarder.
use Rattle.std.proofs.Common.{ℕ, ◌≤◌, List, ◌++◌, ◌∙◌, ap}
use Rattle.std.specs.Prelude.{Bool, Option, Some, None, IfSome}
use Rattle.edge_disk.specs.declared.disk.Disk.{Ghosts}
use Rattle.edge_disk.specs.Disk.{Moment}
use Rattle.edge_io.specs.declared.held_up.HeldUp.{HeldUp}
use Rattle.spool_log.specs.declared.memory.Memory.{Memory}
use Rattle.spool_log.specs.State.{view}
use Rattle.desk_access.specs.Division.{DividedRun}
use Rattle.desk_access.specs.Call.{Call, own_of}
use Rattle.desk_access.specs.Desk.{DeskState, Stood}
use Rattle.desk_access.specs.Journal.{own_then}
use Rattle.forward_core.specs.declared.outward.Outward.{Outward}
use Rattle.spool_turns.specs.Passes.{Beginning}
use Rattle.spool_turns.specs.Replays.{IsReal}
use Rattle.serve_forwarder.specs.Reported.{HasMade, MayReport as ForwarderMay}
use Rattle.bridge_parts.specs.Receivers.{outward_of}
use Rattle.bridge_words.specs.declared.command.Relay.{Relay}
use Rattle.bridge_serve.specs.Doors.{destination_of}
use Rattle.bridge_serve.specs.Opened.{IsOpenedDesk, opened_at, IsOpenedFrom}
use Rattle.bridge_serve.specs.Reported.{HasMadeLast, ForwarderMayReport}
use Rattle.bridge_serve.proofs.Opening.{opened_desk, any_moment}

-- the leave of the words, for the place that is dialed
pub may_report : {D : Type 0} (tells : Type 0) (moment : D → Moment) (given : D) (forward : Option Relay) (At : List ℕ → List ℕ → List ℕ → Type 0)
    (Report : List ℕ → HeldUp → Type 0)
    → IfSome forward (λ relay. ForwarderMayReport tells moment given (outward_of relay.receiver) (At relay.place) (Report relay.place))
    → IfSome (destination_of forward) (λ d. ForwarderMayReport tells moment given d.outward (At d.place) (Report d.place))
may_report tells moment given None At Report may = may
may_report tells moment given (Some relay) At Report may = may

-- of a spool that was opened for storing, and of the desk over it
module _ {D : Type 0} (disks : Ghosts D) (given now : D) (memory : Memory) (in_doubt : Bool) (clock : ℕ) (grouped : Bool) (run : DividedRun) (seats : ℕ)
    (from : IsOpenedFrom disks.tells (disks.moment given) (view memory in_doubt (disks.moment now))) (later : disks.tells → (disks.moment given).clock ≤ clock) where
  abbrev start : DeskState → Type 0
  start = IsOpenedDesk disks.tells (disks.moment given).reads

  abbrev began : Beginning
  began = record { moment = opened_at disks.tells (disks.moment given) clock; grouped = grouped }

  -- the calls of a pass are its last, since its journal is real
  with_last : (calls : List Call) → (made : HasMade (IsReal disks start run seats began) start calls)
      → HasMadeLast disks.tells (disks.moment given) (disks.moment made.real.0.desk.spool.disk) calls
  with_last calls made = record {
    log = made.new.seen;
    led = λ told.
        let x = opened_desk disks.tells (disks.moment given).reads (view memory in_doubt (disks.moment now)) from.opens told in
        let lead = made.real.1.leads x.0 x.1 in record {
          start = x.0;
          opened = x.1;
          after = lead.after;
          goes = lead.goes;
          any_moment = any_moment disks.tells (disks.moment given) (disks.moment made.real.0.desk.spool.disk) clock (Stood x.0 made.new.seen) told (later told)
              lead.any_moment;
        };
    caller = made.old.number;
    earlier = own_of made.old.number made.old.seen;
    own = ap (own_of made.old.number) made.ran.seen ∙ own_then made.old.number made.old.seen made.ran.between
        ∙ ap (λ (l : List Call). own_of made.old.number made.old.seen ++ l) made.ran.own_between;
  }

  -- what the server may report, the forwarder may that was told so
  pub forwarder_reports : (outward : Outward) (Exchanged : List ℕ → List ℕ → Type 0) (Report : HeldUp → Type 0)
      → ForwarderMayReport disks.tells (λ (d : D). disks.moment d) given outward Exchanged Report
      → ForwarderMay (IsReal disks start run seats began) start outward Exchanged Report
  forwarder_reports outward Exchanged Report may held_up is =
      may is.made.real.0.desk.spool.disk held_up (record {
        first = is.first;
        one = is.one;
        made = with_last _ is.made;
        alone = is.alone;
        exchanged = is.exchanged;
        ended = is.ended;
        told = is.told;
      })
