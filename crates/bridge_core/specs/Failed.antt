-- What failed in a run, as its note says.
use Rattle.std.specs.Prelude.{◌≡◌, ◌⊎◌, ℕ, ◌≤◌, List, Option, None, Some}
use Rattle.foundation.specs.Faults.{Rose}
use Rattle.conn_serve.specs.Endings.{CountsFaults}
use Rattle.edge_io.specs.Net.{NetState}
use Rattle.edge_io.specs.declared.proto.Proto.{Proto}
use Rattle.edge_disk.specs.Disk.{Moment}
use Rattle.edge_io.specs.declared.proto.Proto.TheVariants.{Hec}
use Rattle.bridge_words.specs.declared.command.Receiver.{Receiver}
use Rattle.bridge_words.specs.declared.command.Command.TheVariants.{Replay, Drain, Load, Serve}
use Rattle.bridge_words.specs.declared.command.Server.{Server}
use Rattle.notes.specs.declared.note.Note.{Note}
use Rattle.notes.specs.declared.note.Note.TheVariants.{ReadFault, WriteFault, DiskFault}
use Rattle.bridge_words.specs.Words.{IsCommand}
use Rattle.bridge_parts.specs.Counted.{DiskRoseBy, WritesOfBoth}
use Rattle.commands.specs.Failed.{TellsDiskFault, CountsWrites, TellsNetFault}

-- the words ask for a replay of the collector's requests
abbrev pub AsksCollector : List (List ℕ) → Type 0
AsksCollector words = (token : Option ℕ) × (ack_token : Option ℕ) × IsCommand (Replay Hec token ack_token) words

-- the words forward entries: to the output, or to a place
abbrev pub AsksStream : List (List ℕ) → Type 0
AsksStream words = (receiver : Receiver) × IsCommand (Drain receiver None) words

abbrev pub AsksPlace : List (List ℕ) → Type 0
AsksPlace words = (receiver : Receiver) × (place : List ℕ) × IsCommand (Drain receiver (Some place)) words

abbrev pub AsksDrain : List (List ℕ) → Type 0
AsksDrain words = (receiver : Receiver) × (place : Option (List ℕ)) × IsCommand (Drain receiver place) words

-- the words ask for the test in memory
abbrev pub AsksLoad : List (List ℕ) → Type 0
AsksLoad words = (proto : Proto) × (number : ℕ) × (count : ℕ) × IsCommand (Load proto number count) words

-- the words serve many senders
abbrev pub AsksServe : List (List ℕ) → Type 0
AsksServe words = (server : Server) × IsCommand (Serve server) words

-- Where entries are forwarded to a place: the failed read that the note reports was one of a link that was hung up.
pub record ReadsOfLink (note : Note) (before now hung_before hung_now : ℕ) : Type 0 where
  pub none : now ≡ before
  pub later : hung_before ≤ hung_now
  pub cause : note ≡ ReadFault → Rose 1 hung_before hung_now

-- The same of any words, but where many senders are served: there the disk may have failed too where the note says something else, as
-- a connection's ending doesn't change it.
abbrev pub TellsDisk : List (List ℕ) → Note → Moment → Moment → Type 0
TellsDisk words note old new = TellsDiskFault (AsksCollector words) note old new ⊎ (AsksServe words × DiskRoseBy (note ≡ DiskFault) old new)

-- A read of the input failed exactly where the note says so; where entries are forwarded to a place, or many senders are served, none
-- of it did, and the note reports a read of a link.
abbrev pub TellsReadFault : List (List ℕ) → Note → ℕ → ℕ → NetState → NetState → Type 0
TellsReadFault words note before now net net' =
    CountsFaults (note ≡ ReadFault) before now
    ⊎ ((AsksPlace words ⊎ AsksServe words) × ReadsOfLink note before now net.read_faults net'.read_faults)

-- A write of the output failed exactly where the note says so, but where entries are forwarded or many senders are served.
abbrev pub TellsWriteFault : List (List ℕ) → Note → ℕ → ℕ → NetState → NetState → Type 0
TellsWriteFault words note before now net net' =
    CountsFaults (note ≡ WriteFault) before now
    ⊎ ((AsksStream words × CountsWrites note before now)
    ⊎ ((AsksPlace words ⊎ AsksServe words) × WritesOfBoth note before now net.write_faults net'.write_faults))

-- The same of any words, but where many senders are served: there a bind or a dial may have failed where the note says something
-- else, and the note may report an accept.
abbrev pub TellsDial : List (List ℕ) → Note → NetState → NetState → Type 0
TellsDial words note net net' = TellsNetFault note net net' ⊎ (AsksServe words × (net.net_faults ≤ net'.net_faults))
