-- What a command may write to those who send to it, what it may make known as confirmed, what it may write to the disk, where it may bind
-- doors, what it may tell of the spool and of what holds the forwarding up, and where it may dial.
use Rattle.std.specs.Prelude.{ℕ, List, Some, None}
use Rattle.edge_disk.specs.declared.disk.Disk.{Ghosts as Disks}
use Rattle.edge_disk.specs.Disk.{Moment}
use Rattle.edge_disk.specs.Leave.{LetsAll}
use Rattle.edge_io.specs.declared.held_up.HeldUp.{HeldUp}
use Rattle.edge_io.specs.declared.monitor.SpoolNumbers.{SpoolNumbers}
use Rattle.spool_answers.specs.Leave.{LetsKeep}
use Rattle.bridge_words.specs.declared.command.Command.{Command}
use Rattle.bridge_words.specs.declared.command.Command.TheVariants.{Format, Replay, Drain, Serve}
use Rattle.bridge_words.specs.Words.{IsCommand}
use Rattle.bridge_parts.specs.Receivers.{outward_of}
pub use Rattle.forward_core.specs.Exchanged.{HasExchangedAt}
use Rattle.commands.specs.Answered as input
pub use Rattle.commands.specs.Answered.{WasRead, MayTake}
use Rattle.commands.specs.Released as drain
use Rattle.commands.specs.Replayed.{replay_rules}
pub use Rattle.commands.specs.Released.{WasWritten, WereStreamed}
use Rattle.bridge_serve.specs.Answered as server
use Rattle.bridge_serve.specs.Numbers as numbers
use Rattle.bridge_serve.specs.Released as forwarder
use Rattle.bridge_serve.specs.Reported as held

-- What was exchanged with peers: which bytes were read from the input, which text was written to the output, and which of both over a link
-- that was dialed at a place.
pub record Exchanges : Type 1 where
  pub read : List ℕ → Type 0
  pub written : List ℕ → Type 0
  pub dialed : List ℕ → List ℕ → List ℕ → Type 0

abbrev pub exchanges_as : (List ℕ → Type 0) → (List ℕ → Type 0) → (List ℕ → List ℕ → List ℕ → Type 0) → Exchanges
exchanges_as read written dialed = record { read = read; written = written; dialed = dialed }

-- so it is for the words of each command
abbrev pub ForWords : List (List ℕ) → (Command → Type 0) → Type 0
ForWords words Is = (command : Command) → IsCommand command words → Is command

-- `serve` may write a text to a link of its doors, to one who has sent these bytes, once all that the text acknowledges of them is durable
-- on the disk: `given` is the disk as it was before. No other command has a door.
abbrev pub MayAnswer : {D : Type 0} → Type 0 → (D → Moment) → D → (List ℕ → ℕ → ℕ → List ℕ → List ℕ → Type 0) → Command → Type 0
MayAnswer tells moment given Permits (Serve words) = server.MayAnswer tells moment given words Permits
MayAnswer tells moment given Permits command = Unit {0}

-- `replay` may write a text to the output, once these bytes were read from the input, if all that the text acknowledges of them is durable
-- on the disk.
abbrev pub MayReplay : {D : Type 0} → Type 0 → (D → Moment) → D → (List ℕ → Type 0) → (List ℕ → Type 0) → Command → Type 0
MayReplay tells moment given Read Take (Replay proto token ack_token) =
    input.MayReplay tells moment given (replay_rules proto token ack_token) Read Take
MayReplay tells moment given Read Take command = Unit {0}

-- `drain` and `serve` may make a number known as confirmed once the peer to whom they forward has received its entry, by what was
-- exchanged with it: with `drain` over the streams, or over a link that was dialed at the place of the words; with `serve` over such a
-- link, where the words name a place. `given` is the disk as it was before. No other command may make a number of this disk known:
-- `load` has a spool of its own.
abbrev pub MayRelease : {D : Type 0} → Type 0 → (D → Moment) → D → Exchanges → (ℕ → Type 0) → Command → Type 0
MayRelease tells moment given exchanges Release (Drain receiver None) =
    drain.MayRelease tells moment given (outward_of receiver) (WereStreamed exchanges.read exchanges.written) Release
MayRelease tells moment given exchanges Release (Drain receiver (Some place)) =
    drain.MayRelease tells moment given (outward_of receiver) (exchanges.dialed place) Release
MayRelease tells moment given exchanges Release (Serve words) = forwarder.MayRelease tells moment given words exchanges.dialed Release
MayRelease tells moment given exchanges Release command = Unit {0}

-- so it is with what may become known on this disk
abbrev pub MayReleaseOn : {D : Type 0} → Disks D → D → Exchanges → Command → Type 0
MayReleaseOn disks given exchanges command = MayRelease disks.tells disks.moment given exchanges disks.may_release command

-- `format` may write anything to the disk. Every other command may write what keeps the spool: whatever a crash may tear of it stands for a
-- later state of a spool for which an image of now stands, and knows no number anew but those that may become known.
abbrev pub MayTear : {D : Type 0} → Type 0 → (D → Moment) → (D → ℕ → ℕ → Type 0) → (ℕ → Type 0) → Command → Type 0
MayTear tells moment Tear Release (Format slots size) = LetsAll Tear
MayTear tells moment Tear Release command = LetsKeep tells moment Tear Release

-- Every other command may print any text.
abbrev pub MayPrint : Type 0 → Command → Type 0
MayPrint AnyText (Replay proto token ack_token) = Unit {0}
MayPrint AnyText command = AnyText

-- `serve` may bind doors at the places of its words, and listen at that of `--status`. No other command may bind any.
abbrev pub MayBind : (List ℕ → Type 0) → Command → Type 0
MayBind May (Serve words) = server.MayBind words May
MayBind May command = Unit {0}

-- `serve` may tell those who ask for numbers those of the spool, after a journal that led to then. `given` is the disk as it was before.
-- Nobody asks another command.
abbrev pub MayTell : {D : Type 0} → Type 0 → (D → Moment) → D → (SpoolNumbers → Type 0) → Command → Type 0
MayTell tells moment given May (Serve words) = numbers.MayTell tells moment given May
MayTell tells moment given May command = Unit {0}

-- `serve` may report what holds up the forwarding to the place of its words: the entry that the session just held had offered alone and that
-- was not acknowledged then, and the code with which the peer refused it, where it did. `given` is the disk as it was before. No other
-- command reports any.
abbrev pub MayReport : {D : Type 0} → Type 0 → (D → Moment) → D → (List ℕ → List ℕ → List ℕ → Type 0) → (List ℕ → HeldUp → Type 0) → Command → Type 0
MayReport tells moment given ExchangedAt Report (Serve words) = held.MayReport tells moment given words ExchangedAt Report
MayReport tells moment given ExchangedAt Report command = Unit {0}

-- `drain` and `serve` may dial the place that their words name, and no other command any.
abbrev pub MayDial : (List ℕ → Type 0) → Command → Type 0
MayDial May (Drain receiver (Some place)) = May place
MayDial May (Serve words) = server.MayDial words May
MayDial May command = Unit {0}
