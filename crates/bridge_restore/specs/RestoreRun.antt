-- What a call of `bridge_restore` did.
use Rattle.std.specs.Prelude.{◌≡◌, ◌⊎◌, ℕ, ◌+◌, List, length, Option, None, Some}
use Rattle.edge_disk.specs.Calls.{Calls}
use Rattle.edge_disk.specs.Disk.{IsUntouched}
use Rattle.spool_state.specs.SpoolState.{OpenSlot}
use Rattle.notes.specs.declared.note.Note.{Note}
use Rattle.notes.specs.declared.note.Note.TheVariants.{Fine, NoMemory, DiskFault}
use Rattle.bridge_parts.specs.Run.{DiskRun, IsUnused}
use Rattle.bridge_rescue.specs.declared.layout.Layout.{Layout}
use Rattle.bridge_rescue.specs.declared.fault.SlotFault.{SlotFault}
use Rattle.bridge_rescue.specs.declared.gaps.Span.{Span}
use Rattle.bridge_rescue.specs.declared.rescued.Report.{Report}
use Rattle.bridge_rescue.specs.Faults.{HasUnread, IsVerdict, broken_in}
use Rattle.bridge_rescue.specs.Gaps.{gaps_in, spans_in}
use Rattle.bridge_rescue.specs.Slots.{AreJudged}
use Rattle.bridge_rescue.specs.RescueRun.{IsLayoutOf, FailsRead, HasNoLayout}
use Rattle.bridge_restore.specs.Into.{GoesInto, IsStoreNote}

-- how these words may end
abbrev pub IsRestoreNote : Note → Type 0
IsRestoreNote Fine = Unit {0}
IsRestoreNote note = IsStoreNote note

-- a slot was not read
abbrev pub HasUnreadIn : Option Report → Type 0
HasUnreadIn None = ⊥
HasUnreadIn (Some report) = HasUnread report.faults.items

-- A call of the first disk failed exactly where the note says so, or a slot was not read, and none of the other's; or it was one of the
-- other's, exactly where the note says so, and of the first one's only those by which a slot was not read.
abbrev pub TellsBoth : Option Report → Note → DiskRun → DiskRun → Type 0
TellsBoth report note disk target =
    (Calls (FailsRead report note) disk.old disk.new × Calls ⊥ target.old target.new)
    ⊎ (Calls (HasUnreadIn report) disk.old disk.new × Calls (note ≡ DiskFault) target.old target.new)

-- All entries were stored, and the note is what the faults and the gaps make it; or not all were, and this is why.
abbrev pub EndsBy : Report → Option Note → ℕ → Note → Type 0
EndsBy report None stored note = (report.printed ≡ Some stored) × IsVerdict report.faults.items report.gaps.items note
EndsBy report (Some why) stored note = (report.printed ≡ None) × (note ≡ why)

-- so the note is, and so many entries were found where all of them were stored
abbrev pub EndsWith : Option Note → ℕ → List SlotFault → List Span → Note × Option ℕ → Type 0
EndsWith None count faults gaps ended = IsVerdict faults gaps ended.0 × (ended.1 ≡ Some count)
EndsWith (Some why) count faults gaps ended = (ended.0 ≡ why) × (ended.1 ≡ None)

-- The slots of the device were looked at, and so the entries of the sound ones were stored into the other spool, and those of the groups
-- before the fault of each one that is broken, in order of their numbers. The report says how many are sound, and what is missing between
-- the entries.
pub record RestoresSlots (given : Option Layout) (tag : ℕ) (c : List ℕ) (report : Report) (target : DiskRun) (stored : ℕ) (note : Note) : Type 0 where
  pub size : ℕ
  pub found : List OpenSlot
  pub layout : IsLayoutOf given c report.slots size
  pub judged : AreJudged report.slots size c found report.faults.items
  -- each that was found and isn't broken is sound
  pub counted : report.sound + broken_in report.faults.items ≡ length found
  pub missing : report.gaps.items ≡ gaps_in (spans_in found)
  pub why : Option Note
  pub goes : GoesInto tag found target why stored
  pub ends : EndsBy report why stored note

-- No slot was looked at, since there is no layout or no memory was found; or they were, and this is the report.
abbrev pub Restores : Option Layout → ℕ → List ℕ → Option Report → DiskRun → ℕ → Note → Type 0
Restores given tag c None target stored note = HasNoLayout given c note ⊎ (note ≡ NoMemory)
Restores given tag c (Some report) target stored note = RestoresSlots given tag c report target stored note

-- What a call did that ended with this note. The disk reads as before, and no image comes anew that a crash may leave. Where no slot was looked
-- at, the other disk was left alone.
pub record IsRestoreRun (given : Option Layout) (tag : ℕ) (disk target : DiskRun) (report : Option Report) (stored : ℕ) (note : Note) : Type 0 where
  pub known : IsRestoreNote note
  pub calls : TellsBoth report note disk target
  pub unchanged : disk.tells → IsUntouched disk.old disk.new
  pub alone : report ≡ None → IsUnused target × (stored ≡ 0)
  pub done : disk.tells → Restores given tag disk.old.reads report target stored note

-- so it was by this layout, whether that was given or told
abbrev pub RestoresRun : Layout → ℕ → DiskRun → DiskRun → Option Report → ℕ → Note → Type 0
RestoresRun layout tag disk target report stored note =
    (given : Option Layout) → (disk.tells → IsLayoutOf given disk.old.reads layout.slots layout.size) → IsRestoreRun given tag disk target report stored note
