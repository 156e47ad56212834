-- How the program ended, and its exit status.
use Rattle.std.specs.Prelude.{ℕ}
use Rattle.notes.specs.Notes.{status_of}
use Rattle.notes.specs.declared.note.Note.{Note}
use Rattle.notes.specs.declared.note.Note.TheVariants.{DiskFault}
use Rattle.cli_parts.specs.declared.status.Ending.{Ending}
use Rattle.cli_parts.specs.declared.status.Ending.TheVariants.{Noted, InUse, Unopened}

-- why it ended: a file in use, or one that isn't opened, is a fault of the disk
abbrev pub note_in : Ending → Note
note_in (Noted note) = note
note_in InUse = DiskFault
note_in Unopened = DiskFault

-- its status is the note's, but of a file in use, which has one that no note has
abbrev pub status_in : Ending → ℕ
status_in (Noted note) = status_of note
status_in InUse = 80
status_in Unopened = status_of DiskFault
