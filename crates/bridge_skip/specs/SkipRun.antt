-- What a call of `bridge_skip` did.
use Rattle.std.specs.Prelude.{◌≡◌, ◌⊎◌, ℕ}
use Rattle.edge_disk.specs.Calls.{Calls}
use Rattle.edge_disk.specs.Disk.{LeavesOnly}
use Rattle.spool_state.specs.SpoolState.{SpoolState}
use Rattle.spool_state.specs.Image.{StandsFor}
use Rattle.spool_log.specs.declared.fault.RecoverFault.{RecoverFault}
use Rattle.spool_log.specs.declared.opening.Opening.TheVariants.{Keep}
use Rattle.spool_log.specs.Opening.{IsRefusedAs}
use Rattle.conn_serve.specs.Endings.{CountsFaults}
use Rattle.notes.specs.declared.note.Note.{Note}
use Rattle.notes.specs.declared.note.Note.TheVariants.{WriteFault, DiskFault, RunsSpent}
use Rattle.bridge_parts.specs.Refused.{note_of_recover}
use Rattle.bridge_parts.specs.Run.{DiskRun, OutputRun, IsSilent}
use Rattle.bridge_skip.specs.Skipped.{IsOpenNote, Skips}

-- how the words `skip NUMBER` may end
abbrev pub IsSkipNote : ℕ → Note → Type 0
IsSkipNote number (RunsSpent run) = Unit {0}
IsSkipNote number note = IsOpenNote number note

-- The device was not opened: it breaks a rule, the first one at that place, or a call of the disk failed, or no memory was found. Nothing
-- was printed, and whatever a crash leaves is what it could leave before.
pub record IsUnopened (disk : DiskRun) (output : OutputRun) (note : Note) : Type 0 where
  pub fault : RecoverFault
  pub note_is : note ≡ note_of_recover fault
  pub why : disk.tells → IsRefusedAs Keep disk.old.reads fault
  pub silent : IsSilent output
  pub any_moment : disk.tells → LeavesOnly disk.old.image disk.old disk.new

-- The device stood for a spool in this state, and so it was skipped.
pub record SkipsFromDevice (number : ℕ) (disk : DiskRun) (output : OutputRun) (note : Note) : Type 0 where
  pub state : SpoolState
  pub stood : StandsFor state disk.old.reads
  pub skips : Skips number state disk output note

-- What a call for this number did that ended with this note.
pub record IsSkipRun (number : ℕ) (disk : DiskRun) (output : OutputRun) (note : Note) : Type 0 where
  pub known : IsSkipNote number note
  -- A call of the disk, or a write of the output, failed exactly where the note says so.
  pub calls : Calls (note ≡ DiskFault) disk.old disk.new
  pub writes : CountsFaults (note ≡ WriteFault) output.faults output.faults_after
  pub done : IsUnopened disk output note ⊎ (disk.tells → SkipsFromDevice number disk output note)
