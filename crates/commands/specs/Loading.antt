-- What `load` does.
use Rattle.std.specs.Prelude.{◌≡◌, ◌⊎◌, ℕ}
use Rattle.edge_io.specs.declared.proto.Proto.{Proto}
use Rattle.conn_serve.specs.Endings.{CountsFaults}
use Rattle.load_run.specs.declared.loaded.Loaded.{Loaded}
use Rattle.load_run.specs.declared.loaded.LoadFault.{LoadFault}
use Rattle.load_run.specs.declared.loaded.LoadFault.TheVariants as Load
use Rattle.load_run.specs.Load.{IsLoaded}
use Rattle.load_run.specs.Line.{load_line}
use Rattle.load_laws.specs.Loads.{AllConfirmed}
use Rattle.notes.specs.declared.note.Note.{Note}
use Rattle.notes.specs.Notes.{note_of_talk}
use Rattle.bridge_parts.specs.Refused.{note_of_sent}
use Rattle.bridge_parts.specs.Run.{OutputRun, IsSilent}
use Rattle.bridge_parts.specs.Written.{IsPrinted}

-- the note of a load that came to no numbers
abbrev pub note_of_load : LoadFault → Note
note_of_load (Load.Replayed talk) = note_of_talk talk
note_of_load (Load.Drained sent) = note_of_sent sent
note_of_load Load.NoMemory = Note.NoMemory

-- A load came to numbers, by which all is confirmed, and the line that tells them was printed as the note says.
pub record IsTold (proto : Proto) (number count : ℕ) (output : OutputRun) (note : Note) : Type 0 where
  pub loaded : Loaded
  pub loaded_is : IsLoaded proto number count loaded
  pub all : AllConfirmed count loaded
  pub line : IsPrinted note (load_line loaded) output.taken output.taken_after

-- It came to none, since no memory was found, and nothing was written.
pub record IsUntold (output : OutputRun) (note : Note) : Type 0 where
  pub memory : note ≡ Note.NoMemory
  pub silent : IsSilent output

-- What a call of `load` did: the one or the other. `WriteFault` comes exactly where a write failed in it.
pub record LoadIsTold (proto : Proto) (number count : ℕ) (output : OutputRun) (note : Note) : Type 0 where
  pub writes : CountsFaults (note ≡ Note.WriteFault) output.faults output.faults_after
  pub told : IsTold proto number count output note ⊎ IsUntold output note
