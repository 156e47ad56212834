-- What `list` does.
use Rattle.std.specs.Prelude.{◌≡◌, ◌⊎◌, ℕ, List, [], ◌∷◌, ◌++◌, Option, Some, None, Result, Ok, Err}
use Rattle.std.specs.Io.KnownBytes.{Appends}
use Rattle.event_form.specs.declared.event.Event.{Event}
use Rattle.event_form.specs.declared.event.Entry.{Entry}
use Rattle.event_map.specs.Maps.{IsText, IsJsonObject, IsHecObject}
use Rattle.edge_disk.specs.Calls.{Calls}
use Rattle.edge_disk.specs.Disk.{LeavesOnly}
use Rattle.conn_serve.specs.Endings.{CountsFaults}
use Rattle.spool_state.specs.SpoolState.{SpoolState}
use Rattle.spool_state.specs.Left.{NumberedEntry, left, left_from}
use Rattle.spool_state.specs.Image.{StandsFor}
use Rattle.spool_state.specs.Rules.{Breaks}
use Rattle.notes.specs.declared.note.Note.{Note}
use Rattle.notes.specs.declared.note.Note.TheVariants.{Fine, NotSpool, RunsSpent, Worn, NoMemory, WriteFault, DiskFault}
use Rattle.bridge_words.specs.declared.command.ListForm.{ListForm}
use Rattle.bridge_words.specs.declared.command.ListForm.TheVariants.{Plain, Text, JsonObject, HecObject}
use Rattle.bridge_words.specs.Lines.{entry_line}
use Rattle.bridge_parts.specs.Run.{DiskRun, OutputRun, IsSilent}
use Rattle.bridge_parts.specs.Written.{IsCut}
use Rattle.commands.specs.Refused.{IsRefusedFirst}

-- the line is the event as that map has it, and LF
abbrev pub IsMapped : (Event → List ℕ → Type 0) → Event → List ℕ → Type 0
IsMapped Is event line = (bytes : List ℕ) × Is event bytes × (line ≡ bytes ++ 10 ∷ [])

-- what is printed of the entry of that number
abbrev pub IsLine : ListForm → ℕ → Entry → List ℕ → Type 0
IsLine Plain number e line = line ≡ entry_line number e
IsLine Text number e line = IsMapped IsText e.event line
IsLine JsonObject number e line = IsMapped IsJsonObject e.event line
IsLine HecObject number e line = IsMapped IsHecObject e.event line

-- the text is the lines of these entries, one line for each, in order
abbrev pub AreLines : ListForm → List NumberedEntry → List ℕ → Type 0
AreLines form [] text = text ≡ []
AreLines form (one ∷ more) text = (line : List ℕ) × (rest : List ℕ) × IsLine form one.number one.entry line × AreLines form more rest × (text ≡ line ++ rest)

-- the lines of the first of these entries were written, each whole, and nothing else
pub record PrintsFirst (form : ListForm) (entries : List NumberedEntry) (old new : Option (List ℕ)) : Type 0 where
  pub first : List NumberedEntry
  pub rest : List NumberedEntry
  pub parts : entries ≡ first ++ rest
  pub text : List ℕ
  pub lines : AreLines form first text
  pub written : Appends old new text

-- The lines of these entries were written: all of them where all was done; not all, and the last one perhaps in part, where a write
-- failed; and those of the first ones, each whole, where a call of the disk failed or no memory was found.
abbrev pub ArePrinted : ListForm → List NumberedEntry → Note → Option (List ℕ) → Option (List ℕ) → Type 0
ArePrinted form entries Fine old new = (text : List ℕ) × AreLines form entries text × Appends old new text
ArePrinted form entries WriteFault old new = (text : List ℕ) × AreLines form entries text × IsCut text old new
ArePrinted form entries DiskFault old new = PrintsFirst form entries old new
ArePrinted form entries NoMemory old new = PrintsFirst form entries old new
ArePrinted form entries note old new = ⊥

-- why a device is not opened to be read: it breaks a rule, the first one at that place; or the disk failed, or no memory was found
abbrev pub IsUnreadable : List ℕ → Note → Type 0
IsUnreadable before (NotSpool at) = Breaks at before
IsUnreadable before DiskFault = Unit {0}
IsUnreadable before NoMemory = Unit {0}
IsUnreadable before note = ⊥

-- The device was not opened, and nothing was written; or it stood for a spool, and of the lines of the entries
-- whose numbers aren't known as confirmed, in order, as much was written as the note says.
abbrev pub Lists : ListForm → List ℕ → Option (List ℕ) → Option (List ℕ) → Note → Type 0
Lists form before old new note = (IsUnreadable before note × (new ≡ old)) ⊎ ((s : SpoolState) × StandsFor s before × ArePrinted form (left s) note old new)

-- Of the entries that are left from a number on, the first ones were printed. The others are left from the next number on.
pub record PrintsPart (form : ListForm) (s : SpoolState) (number next : ℕ) (old new : Option (List ℕ)) : Type 0 where
  pub first : List NumberedEntry
  pub parts : left_from s number ≡ first ++ left_from s next
  pub printed : ArePrinted form first Fine old new

-- So it was, and the answer is the next number; or all that are left from the number on were printed, and there is none; or as much of
-- them as the error says.
abbrev pub PrintsNext : ListForm → SpoolState → ℕ → Result (Option ℕ) Note → Option (List ℕ) → Option (List ℕ) → Type 0
PrintsNext form s number (Ok (Some next)) old new = PrintsPart form s number next old new
PrintsNext form s number (Ok None) old new = ArePrinted form (left_from s number) Fine old new
PrintsNext form s number (Err note) old new = ArePrinted form (left_from s number) note old new

-- These lines are held still, and nothing was written; or all of them were written, and none is held.
abbrev pub AreHeldOrWritten : List ℕ → List ℕ → Option (List ℕ) → Option (List ℕ) → Type 0
AreHeldOrWritten lines held old new = ((new ≡ old) × (held ≡ lines)) ⊎ (Appends old new lines × (held ≡ []))

-- how the printing of a spool that was opened may end
abbrev pub IsPrintNote : Note → Type 0
IsPrintNote Fine = Unit {0}
IsPrintNote (NotSpool at) = Unit {0}
IsPrintNote NoMemory = Unit {0}
IsPrintNote WriteFault = Unit {0}
IsPrintNote DiskFault = Unit {0}
IsPrintNote note = ⊥

-- how `list` may end: so, or because the device was not opened
abbrev pub IsListNote : Note → Type 0
IsListNote (RunsSpent run) = Unit {0}
IsListNote (Worn ordinal) = Unit {0}
IsListNote note = IsPrintNote note

-- What a call of `list` did: `DiskFault` and `WriteFault` come exactly where a call of the disk or a write failed in it, and nothing is
-- written to the device: whatever a crash leaves of it is what it could leave before.
pub record IsListed (form : ListForm) (disk : DiskRun) (output : OutputRun) (note : Note) : Type 0 where
  pub known : IsListNote note
  pub unused : IsRefusedFirst note → IsSilent output
  pub calls : Calls (note ≡ DiskFault) disk.old disk.new
  pub writes : CountsFaults (note ≡ WriteFault) output.faults output.faults_after
  pub listed : disk.tells → Lists form disk.old.reads output.taken output.taken_after note
  pub any_moment : disk.tells → LeavesOnly disk.old.image disk.old disk.new
