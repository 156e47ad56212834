-- What the server may report of the entry that holds the forwarding up.
use Rattle.std.specs.Prelude.{◌≡◌, ◌++◌, ℕ, List, IfSome}
use Rattle.edge_disk.specs.Disk.{Moment}
use Rattle.edge_io.specs.declared.held_up.HeldUp.{HeldUp}
use Rattle.desk_access.specs.Call.{Call, Record, own_of}
use Rattle.forward_core.specs.declared.outward.Outward.{Outward}
use Rattle.serve_forwarder.specs.Reported.{IsHeldUp}
use Rattle.bridge_parts.specs.Receivers.{outward_of}
use Rattle.bridge_words.specs.declared.command.Server.{Server}
use Rattle.bridge_serve.specs.Answered.{HasLed}

-- The calls are the last of a caller in a journal that led the desk from the opening of the disk to now. So it is where the disk tells
-- what it reads: over one that doesn't, nothing is said of the journal.
pub record HasMadeLast (tells : Type 0) (before now : Moment) (calls : List Call) : Type 0 where
  pub log : List Record
  pub led : tells → HasLed tells before now log
  pub caller : ℕ
  pub earlier : List Call
  pub own : own_of caller log ≡ earlier ++ calls

-- What holds the forwarding up may be reported, to the peer that is spoken to so, by the calls that were made last. `given` is the disk as
-- it was before it was opened.
abbrev pub ForwarderMayReport : {D : Type 0} → Type 0 → (D → Moment) → D → Outward → (List ℕ → List ℕ → Type 0) → (HeldUp → Type 0) → Type 0
ForwarderMayReport {D} tells moment given outward Exchanged Report =
    (disk : D) (held_up : HeldUp) → IsHeldUp outward Exchanged (HasMadeLast tells (moment given) (moment disk)) held_up → Report held_up

-- So it is of the place that the words forward to. Where they name none nothing may be reported.
abbrev pub MayReport : {D : Type 0} → Type 0 → (D → Moment) → D → Server → (List ℕ → List ℕ → List ℕ → Type 0) → (List ℕ → HeldUp → Type 0) → Type 0
MayReport tells moment given server ExchangedAt Report =
    IfSome server.forward (λ relay. ForwarderMayReport tells moment given (outward_of relay.receiver) (ExchangedAt relay.place) (Report relay.place))
