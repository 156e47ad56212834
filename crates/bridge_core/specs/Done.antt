-- What the top call does with the words of a command.
use Rattle.std.specs.Prelude.{◌≡◌, ◌≢◌, ℕ, ◌≤◌, [], None, Some}
use Rattle.bridge_words.specs.declared.command.Command.{Command}
use Rattle.bridge_words.specs.declared.command.Command.TheVariants.{Format, List as ListCommand, Replay, Drain, Load, Serve}
use Rattle.notes.specs.declared.note.Note.{Note}
use Rattle.notes.specs.declared.note.Note.TheVariants.{Usage, NoMemory, WrongLength, ReadFault, DiskFault}
use Rattle.bridge_parts.specs.Counted.{RoseBy, DiskRoseBy, WritesOfBoth}
use Rattle.bridge_parts.specs.Receivers.{outward_of}
use Rattle.bridge_parts.specs.Run.{Run, IsOffline, IsSilent, IsUngiven, IsUnused}
use Rattle.bridge_serve.specs.Served.{IsServed}
use Rattle.commands.specs.Drained.{IsDrained, IsDrainedTo}
use Rattle.commands.specs.Formatted.{IsFormatted}
use Rattle.commands.specs.Listed.{IsListed}
use Rattle.commands.specs.Loading.{LoadIsTold}
use Rattle.commands.specs.Replayed.{IsReplayed, replay_rules}

-- Nothing was done.
pub record IsUntouched (run : Run) : Type 0 where
  pub disk : IsUnused run.disk
  pub input : IsUngiven run.input
  pub output : IsSilent run.output
  pub net : IsOffline run.net
  pub doors : run.doors ≡ []

-- No memory was found for reading the words, and nothing was done.
abbrev pub IsUndone : Run → Note → Type 0
IsUndone run note = (note ≡ NoMemory) × IsUntouched run

-- What failed while many senders were served: calls may fail without ending the run, and its note is that of the first failure that
-- ended it.
pub record ServeTells (run : Run) (note : Note) : Type 0 where
  pub known : (note ≢ Usage) × ((have want : ℕ) → note ≢ WrongLength have want)
  pub calls : DiskRoseBy (note ≡ DiskFault) run.disk.old run.disk.new
  pub reads : RoseBy (note ≡ ReadFault) run.net.old.read_faults run.net.new.read_faults
  pub writes : WritesOfBoth note run.output.faults run.output.faults_after run.net.old.write_faults run.net.new.write_faults
  pub dials : run.net.old.net_faults ≤ run.net.new.net_faults

-- The device is made an empty spool; or the entries are listed that aren't known as confirmed; or the input is served as one connection
-- of a protocol, by the tokens of the words; or the entries that aren't known as confirmed are forwarded, over the input and the output
-- or to a place; or a stream is stored and forwarded in memory alone; or many senders are served at doors. What a command doesn't need
-- is left alone: `serve` alone binds doors.
abbrev pub Does : Command → Run → Note → Type 0
Does (Format slots size) run note =
    IsFormatted slots size run.disk run.output note × IsUngiven run.input × IsOffline run.net × (run.doors ≡ [])
Does (ListCommand form) run note = IsListed form run.disk run.output note × IsUngiven run.input × IsOffline run.net × (run.doors ≡ [])
Does (Replay proto token ack_token) run note =
    IsReplayed (replay_rules proto token ack_token) run.disk run.input run.output note
    × IsOffline run.net × (run.doors ≡ [])
Does (Drain receiver None) run note =
    IsDrained (outward_of receiver) run.disk run.input run.output note × (run.net.new ≡ run.net.old) × (run.doors ≡ [])
Does (Drain receiver (Some place)) run note =
    IsDrainedTo (outward_of receiver) place run.disk run.net run.output note × IsUngiven run.input × (run.doors ≡ [])
Does (Load proto number count) run note =
    LoadIsTold proto number count run.output note × IsUnused run.disk × IsUngiven run.input × IsOffline run.net × (run.doors ≡ [])
Does (Serve server) run note = IsServed server run.disk run.output run.net run.doors note × IsUngiven run.input × ServeTells run note

-- the command is another one than `serve`
abbrev pub IsOther : Command → Type 0
IsOther (Serve server) = ⊥
IsOther command = Unit {0}
