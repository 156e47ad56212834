-- What a call of `bridge_rescue` did.
use Rattle.std.specs.Prelude.{◌≡◌, ◌≢◌, ◌⊎◌, ℕ, ◌+◌, List, length, Option, None, Some}
use Rattle.event_form.specs.declared.event.Entry.{Entry}
use Rattle.edge_disk.specs.Calls.{Calls}
use Rattle.edge_disk.specs.Disk.{IsUntouched}
use Rattle.spool_state.specs.SpoolState.{OpenSlot, entries_in}
use Rattle.conn_serve.specs.Endings.{CountsFaults}
use Rattle.notes.specs.declared.note.Note.{Note}
use Rattle.notes.specs.declared.note.Note.TheVariants.{Fine, NoMemory, WriteFault, DiskFault}
use Rattle.bridge_parts.specs.Run.{DiskRun, OutputRun, IsSilent}
use Rattle.bridge_rescue.specs.declared.layout.Layout.{Layout}
use Rattle.bridge_rescue.specs.declared.rescued.Report.{Report}
use Rattle.bridge_rescue.specs.Layout.{TellsLayout, IsUntold}
use Rattle.bridge_rescue.specs.Faults.{HasUnread, IsVerdict, broken_in}
use Rattle.bridge_rescue.specs.Gaps.{gaps_in, spans_in}
use Rattle.bridge_rescue.specs.Slots.{AreJudged}
use Rattle.bridge_rescue.specs.Lines.{PrintsAll, Prints, IsPrintNote}

-- The layout by which slots are looked for: the one that is given, or where none is, the one that the header tells.
abbrev pub IsLayoutOf : Option Layout → List ℕ → ℕ → ℕ → Type 0
IsLayoutOf None c slots size = TellsLayout slots size c
IsLayoutOf (Some given) c slots size = (slots ≡ given.slots) × (size ≡ given.size)

-- how the word `rescue` may end
abbrev pub IsRescueNote : Note → Type 0
IsRescueNote Fine = Unit {0}
IsRescueNote note = IsPrintNote note

-- a call of the disk failed: the note says so, or a slot was not read
abbrev pub FailsRead : Option Report → Note → Type 0
FailsRead None note = note ≡ DiskFault
FailsRead (Some report) note = (note ≡ DiskFault) ⊎ HasUnread report.faults.items

-- no layout is given, and the header tells none or was not read
abbrev pub HasNoLayout : Option Layout → List ℕ → Note → Type 0
HasNoLayout None c note = IsUntold note c
HasNoLayout (Some given) c note = ⊥

-- All of these entries were printed, and the note is what the faults and the gaps make it; or not all were, and the note says why.
abbrev pub Ends : Report → List Entry → OutputRun → Note → Type 0
Ends report entries output note =
    (PrintsAll entries output.taken output.taken_after × (report.printed ≡ Some (length entries)) × IsVerdict report.faults.items report.gaps.items note)
    ⊎ (Prints note entries output.taken output.taken_after × (report.printed ≡ None) × (note ≢ Fine))

-- The slots of the device were looked at, and so the entries of the sound ones were printed, and those of the groups before the fault of each
-- one that is broken, in order of their numbers. The report says how many are sound, and what is missing between the entries.
pub record RescuesSlots (given : Option Layout) (c : List ℕ) (report : Report) (output : OutputRun) (note : Note) : Type 0 where
  pub size : ℕ
  pub found : List OpenSlot
  pub layout : IsLayoutOf given c report.slots size
  pub judged : AreJudged report.slots size c found report.faults.items
  -- each that was found and isn't broken is sound
  pub counted : report.sound + broken_in report.faults.items ≡ length found
  pub missing : report.gaps.items ≡ gaps_in (spans_in found)
  pub ends : Ends report (entries_in found) output note

-- No slot was looked at, since there is no layout or no memory was found; or they were, and this is the report.
abbrev pub Rescues : Option Layout → List ℕ → Option Report → OutputRun → Note → Type 0
Rescues given c None output note = HasNoLayout given c note ⊎ (note ≡ NoMemory)
Rescues given c (Some report) output note = RescuesSlots given c report output note

-- so it was by this layout, whether that was given or told
abbrev pub RescuesBy : Layout → List ℕ → Option Report → OutputRun → Note → Type 0
RescuesBy layout c report output note = (given : Option Layout) → IsLayoutOf given c layout.slots layout.size → Rescues given c report output note

-- What a call did that ended with this note. The disk reads as before, and no image comes anew that a crash may leave.
pub record IsRescueRun (given : Option Layout) (disk : DiskRun) (output : OutputRun) (report : Option Report) (note : Note) : Type 0 where
  pub known : IsRescueNote note
  -- A call of the disk, or a write of the output, failed exactly where the report and the note say so.
  pub calls : Calls (FailsRead report note) disk.old disk.new
  pub writes : CountsFaults (note ≡ WriteFault) output.faults output.faults_after
  pub unchanged : disk.tells → IsUntouched disk.old disk.new
  pub silent : report ≡ None → IsSilent output
  pub done : disk.tells → Rescues given disk.old.reads report output note
