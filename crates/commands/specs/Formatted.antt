-- What `format SLOTS SIZE` does.
use Rattle.std.specs.Prelude.{◌≡◌, ◌≢◌, ℕ, List}
use Rattle.spool_state.specs.Image.{slot_at, StandsFor}
use Rattle.spool_state.specs.Empty.{empty_state}
use Rattle.edge_disk.specs.Calls.{Calls}
use Rattle.edge_disk.specs.Disk.{Moment, LeavesOnly}
use Rattle.spool_log.specs.Making.Format.{IsFormatStep}
use Rattle.conn_serve.specs.Endings.{CountsFaults}
use Rattle.notes.specs.declared.note.Note.{Note}
use Rattle.notes.specs.declared.note.Note.TheVariants.{Fine, WrongLength, NoMemory, WriteFault, DiskFault}
use Rattle.bridge_words.specs.Lines.{spool_line}
use Rattle.bridge_parts.specs.Run.{DiskRun, OutputRun, IsSilent}
use Rattle.bridge_parts.specs.Written.{IsPrinted}

-- Whatever a crash leaves from now on stands for the empty spool.
abbrev pub IsEmptied : ℕ → ℕ → Moment → Type 0
IsEmptied slots size m = (c : List ℕ) → m.image c → StandsFor (empty_state slots size) c

-- the spool was made, and the line printed as the note says
pub record IsMade (slots size : ℕ) (disk : DiskRun) (output : OutputRun) (note : Note) : Type 0 where
  pub length : disk.old.size ≡ slot_at size slots
  pub empty : disk.tells → IsEmptied slots size disk.new
  pub line : IsPrinted note (spool_line slots size) output.taken output.taken_after

-- The device has another length, and the note has both: it stays the one that was given; or a call of the disk failed; or the spool was
-- made. Where it was not, nothing was written.
abbrev pub Formats : ℕ → ℕ → DiskRun → OutputRun → Note → Type 0
Formats slots size disk output Fine = IsMade slots size disk output Fine
Formats slots size disk output WriteFault = IsMade slots size disk output WriteFault
Formats slots size disk output NoMemory = IsMade slots size disk output NoMemory
Formats slots size disk output DiskFault = (disk.old.size ≡ slot_at size slots) × IsSilent output
Formats slots size disk output (WrongLength have want) =
    (have ≡ disk.old.size) × (want ≡ slot_at size slots) × (have ≢ want) × disk.same × IsSilent output
Formats slots size disk output note = ⊥

-- What a call of `format` did: `DiskFault` and `WriteFault` come exactly where a call of the disk or a write failed in it, and whatever
-- a crash left meanwhile could stand there before, or is no spool, or the empty one.
pub record IsFormatted (slots size : ℕ) (disk : DiskRun) (output : OutputRun) (note : Note) : Type 0 where
  pub calls : Calls (note ≡ DiskFault) disk.old disk.new
  pub writes : CountsFaults (note ≡ WriteFault) output.faults output.faults_after
  pub formatted : Formats slots size disk output note
  pub any_moment : disk.tells → LeavesOnly (IsFormatStep slots size disk.old) disk.old disk.new
