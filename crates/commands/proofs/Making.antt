-- A device that was made an empty spool, or was not.
use Rattle.std.proofs.Common.{◌≡◌, ◌≢◌, ◌∙◌, ℕ, sym, subst}
use Rattle.edge_disk.specs.Calls.{Calls}
use Rattle.edge_disk.specs.Disk.{IsSettled, LeavesOnly}
use Rattle.conn_serve.specs.Endings.{CountsFaults}
use Rattle.conn_serve.proofs.Faults.{counts_none}
use Rattle.spool_state.specs.Image.{slot_at, StandsFor}
use Rattle.spool_state.specs.Empty.{empty_state}
use Rattle.spool_log.specs.Making.Format.{CameOf, IsFormatStep}
use Rattle.spool_log.specs.declared.making.formatting.FormatFault.TheVariants as fault
use Rattle.notes.specs.declared.note.Note.{Note}
use Rattle.bridge_words.specs.Lines.{spool_line}
use Rattle.bridge_parts.specs.Run.{DiskRun, OutputRun, IsSilent}
use Rattle.bridge_parts.specs.Written.{IsPrinted}
use Rattle.commands.specs.Formatted.{Formats, IsFormatted}

module _ (slots size : ℕ) (disk : DiskRun) (output : OutputRun) where
  formats_made : (note : Note) → disk.old.size ≡ slot_at size slots → (disk.tells → IsSettled disk.new)
      → (disk.tells → StandsFor (empty_state slots size) disk.new.reads)
      → IsPrinted note (spool_line slots size) output.taken output.taken_after → Formats slots size disk output note
  formats_made Note.Fine length settled empty line = record {
    length = length;
    empty = λ told c image. subst (StandsFor (empty_state slots size)) (sym ((settled told).only c image)) (empty told);
    line = line;
  }
  formats_made Note.WriteFault length settled empty line = record {
    length = length;
    empty = λ told c image. subst (StandsFor (empty_state slots size)) (sym ((settled told).only c image)) (empty told);
    line = line;
  }
  formats_made Note.NoMemory length settled empty line = record {
    length = length;
    empty = λ told c image. subst (StandsFor (empty_state slots size)) (sym ((settled told).only c image)) (empty told);
    line = line;
  }
  formats_made note length settled empty line = absurd line

  -- the spool was made, and the line printed as the note says
  pub formatted : (note : Note) → Calls (note ≡ Note.DiskFault) disk.old disk.new
      → CountsFaults (note ≡ Note.WriteFault) output.faults output.faults_after
      → disk.old.size ≡ slot_at size slots → (disk.tells → IsSettled disk.new)
      → (disk.tells → StandsFor (empty_state slots size) disk.new.reads)
      → IsPrinted note (spool_line slots size) output.taken output.taken_after
      → (disk.tells → LeavesOnly (IsFormatStep slots size disk.old) disk.old disk.new) → IsFormatted slots size disk output note
  formatted note calls writes length settled empty line any_moment = record {
    calls = calls;
    writes = writes;
    formatted = formats_made note length settled empty line;
    any_moment = any_moment;
  }

  -- the device has another length
  pub wrong_length : (have want : ℕ) → CameOf disk.old.size (slot_at size slots) (fault.WrongLength have want)
      → Calls (Note.WrongLength have want ≡ Note.DiskFault) disk.old disk.new
      → (disk.old.size ≢ slot_at size slots → disk.same) → IsSilent output
      → (disk.tells → LeavesOnly (IsFormatStep slots size disk.old) disk.old disk.new)
      → IsFormatted slots size disk output (Note.WrongLength have want)
  wrong_length have want (have_is, want_is, other) calls unchanged silent any_moment = record {
    calls = calls;
    writes = counts_none _ output.faults output.faults_after (λ by. cc) silent.faults;
    formatted = (have_is, want_is, (λ same. other (sym have_is ∙ same ∙ want_is)), unchanged other, silent);
    any_moment = any_moment;
  }

  -- a call of the disk failed
  pub disk_failed : disk.old.size ≡ slot_at size slots → Calls (Note.DiskFault ≡ Note.DiskFault) disk.old disk.new
      → IsSilent output
      → (disk.tells → LeavesOnly (IsFormatStep slots size disk.old) disk.old disk.new)
      → IsFormatted slots size disk output Note.DiskFault
  disk_failed length calls silent any_moment = record {
    calls = calls;
    writes = counts_none _ output.faults output.faults_after (λ by. cc) silent.faults;
    formatted = (length, silent);
    any_moment = any_moment;
  }
