-- What the server may make known as confirmed, and when.
use Rattle.std.specs.Prelude.{◌≡◌, ◌≤◌, ◌++◌, ℕ, List, IfSome}
use Rattle.edge_disk.specs.Disk.{Moment}
use Rattle.desk_access.specs.Call.{Call, Record, own_of}
use Rattle.forward_core.specs.Received.{IsReceived}
use Rattle.forward_core.specs.declared.outward.Outward.{Outward}
use Rattle.bridge_parts.specs.Receivers.{outward_of}
use Rattle.bridge_words.specs.declared.command.Server.{Server}
use Rattle.bridge_serve.specs.Answered.{HasLed}

-- The calls of a session are the last of a caller in a journal that led the desk from the opening of the disk to now. The session starts
-- no higher than the cursor is now: all numbers below that are known already. So it is where the disk tells what it reads: over one
-- that doesn't, nothing is said of the journal.
pub record HasMade (tells : Type 0) (before now : Moment) (start : ℕ) (calls : List Call) : Type 0 where
  pub log : List Record
  pub led : tells → HasLed tells before now log
  pub known_below : (told : tells) → start ≤ (led told).after.spool.cursor
  pub caller : ℕ
  pub earlier : List Call
  pub own : own_of caller log ≡ earlier ++ calls

-- A number may become known as confirmed once the peer that is spoken to so has received its entry, of those that a session read from
-- the disk. `given` is the disk as it was before it was opened.
abbrev pub ForwarderMayRelease : {D : Type 0} → Type 0 → (D → Moment) → D → Outward → (List ℕ → List ℕ → Type 0) → (ℕ → Type 0) → Type 0
ForwarderMayRelease {D} tells moment given outward Exchanged Release =
    (disk : D) (n : ℕ) → IsReceived outward Exchanged (HasMade tells (moment given) (moment disk)) n → Release n

-- So it is of the peer at the place that the words forward to. Where they name none no number may become known.
abbrev pub MayRelease : {D : Type 0} → Type 0 → (D → Moment) → D → Server → (List ℕ → List ℕ → List ℕ → Type 0) → (ℕ → Type 0) → Type 0
MayRelease tells moment given server ExchangedAt Release =
    IfSome server.forward (λ relay. ForwarderMayRelease tells moment given (outward_of relay.receiver) (ExchangedAt relay.place) Release)
