-- What `skip` does with a spool that is open.
use Rattle.std.specs.Prelude.{◌≡◌, ◌≢◌, ◌⊎◌, ℕ}
use Rattle.event_form.specs.declared.event.Event.{Event}
use Rattle.edge_disk.specs.Disk.{LeavesOnly}
use Rattle.spool_state.specs.SpoolState.{SpoolState}
use Rattle.spool_state.specs.Left.{NumberedEntry}
use Rattle.notes.specs.declared.note.Note.{Note}
use Rattle.notes.specs.declared.note.Note.TheVariants.{Fine, Strange, NoMemory, WriteFault, DiskFault}
use Rattle.bridge_parts.specs.Run.{DiskRun, OutputRun}
use Rattle.bridge_skip.specs.Line.{PrintsEvent}
use Rattle.bridge_skip.specs.Leave.{IsPending}
use Rattle.bridge_skip.specs.Released.{IsReleaseNote, Releases}

-- how it may end
abbrev pub IsOpenNote : ℕ → Note → Type 0
IsOpenNote number (Strange other) = other ≡ number
IsOpenNote number WriteFault = Unit {0}
IsOpenNote number note = IsReleaseNote note

-- the disk failed, or no memory was found
abbrev pub IsUnread : Note → Type 0
IsUnread DiskFault = Unit {0}
IsUnread NoMemory = Unit {0}
IsUnread note = ⊥

-- Nothing was printed or changed: no entry of that number is pending, and the note says so; or it was not read.
pub record SkipsNone (number : ℕ) (s : SpoolState) (disk : DiskRun) (output : OutputRun) (note : Note) : Type 0 where
  pub why : ((note ≡ Strange number) × ((one : NumberedEntry) → IsPending s number one → ⊥)) ⊎ IsUnread note
  pub unprinted : output.taken_after ≡ output.taken
  pub any_moment : LeavesOnly disk.old.image disk.old disk.new

-- Not all of the line was written, and nothing changed: whatever a crash leaves is what it could leave before.
pub record StopsInLine (event : Event) (disk : DiskRun) (output : OutputRun) (note : Note) : Type 0 where
  pub stopped : note ≢ Fine
  pub printed : PrintsEvent event note output.taken output.taken_after
  pub any_moment : LeavesOnly disk.old.image disk.old disk.new

-- Not all of the line of this event was written; or all of it was, and after that the number alone was to be made known.
abbrev pub SkipsEvent : ℕ → Event → SpoolState → DiskRun → OutputRun → Note → Type 0
SkipsEvent number event s disk output note =
    StopsInLine event disk output note
    ⊎ (PrintsEvent event Fine output.taken output.taken_after × Releases s number disk.old disk.new note)

-- Nothing was done with a spool in this state; or an entry of that number is pending, and so it was with its event.
abbrev pub Skips : ℕ → SpoolState → DiskRun → OutputRun → Note → Type 0
Skips number s disk output note =
    SkipsNone number s disk output note
    ⊎ ((one : NumberedEntry) × IsPending s number one × SkipsEvent number one.entry.event s disk output note)
