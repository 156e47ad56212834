-- Why entries were not all stored, as notes.
use Rattle.std.specs.Prelude.{Option, None, Some, Result, Ok, Err}
use Rattle.spool_faults.specs.declared.fault.TakeFault.{TakeFault}
use Rattle.spool_faults.specs.declared.fault.TakeFault.TheVariants as Take
use Rattle.notes.specs.declared.note.Note.{Note}
use Rattle.notes.specs.declared.note.Note.TheVariants as Note
use Rattle.bridge_parts.specs.Refused.{note_of_pend}
use Rattle.bridge_rescue.specs.Looking.{note_of_scan}
use Rattle.bridge_restore.specs.declared.fault.StoreFault.{StoreFault}
use Rattle.bridge_restore.specs.declared.fault.StoreFault.TheVariants.{Strange, Unseen, Unread, Untaken}

-- the note of the same name, for an entry that wasn't taken
abbrev pub note_of_take : TakeFault → Note
note_of_take (Take.TooLarge need most) = Note.TooLarge need most
note_of_take (Take.Spent at) = Note.Spent at
note_of_take (Take.Full need free) = Note.Full need free
note_of_take (Take.NotSpool at) = Note.NotSpool at
note_of_take Take.DiskFault = Note.DiskFault
note_of_take Take.NoMemory = Note.NoMemory

-- the note that says why they were not
abbrev pub note_of_store : StoreFault → Note
note_of_store (Strange number) = Note.Strange number
note_of_store (Unseen fault) = note_of_pend fault
note_of_store (Unread fault) = note_of_scan fault
note_of_store (Untaken fault) = note_of_take fault

-- the note that says why not all were stored, where they weren't
abbrev pub why_of : Result Unit StoreFault → Option Note
why_of (Ok done) = None
why_of (Err fault) = Some (note_of_store fault)
