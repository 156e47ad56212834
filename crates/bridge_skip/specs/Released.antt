-- One number that becomes known as confirmed.
use Rattle.std.specs.Prelude.{◌≡◌, ◌⊎◌, ℕ, ◌+◌, List, [], ◌∷◌, Result, Ok, Err}
use Rattle.known_numbers.specs.declared.stretch.Stretch.{Stretch}
use Rattle.edge_disk.specs.Disk.{Moment, LeavesOnly}
use Rattle.spool_state.specs.SpoolState.{SpoolState, IsKnownIn}
use Rattle.spool_faults.specs.declared.fault.ConfirmFault.{ConfirmFault}
use Rattle.spool_faults.specs.declared.fault.ConfirmFault.TheVariants as Confirm
use Rattle.spool_answers.specs.Mark.{Marks, after_mark, mark_stages, mark_doubt}
use Rattle.spool_answers.specs.Stages.{StandsForOne, IsMidway}
use Rattle.notes.specs.declared.note.Note.{Note}
use Rattle.notes.specs.declared.note.Note.TheVariants.{Fine, NotSpool, Full, NoMemory, DiskFault, Worn}

-- the number, as a stretch
abbrev pub only : ℕ → List Stretch
only number = record { from = number; to = number + 1 } ∷ []

-- the note of the same name, for a number that was not made known
abbrev pub note_of_confirm : ConfirmFault → Note
note_of_confirm (Confirm.Worn ordinal) = Worn ordinal
note_of_confirm (Confirm.NotSpool at) = NotSpool at
note_of_confirm Confirm.DiskFault = DiskFault
note_of_confirm Confirm.NoMemory = NoMemory

-- there is no room for one stretch more
abbrev pub no_room : Note
no_room = Full 1 0

-- how it may end
abbrev pub IsReleaseNote : Note → Type 0
IsReleaseNote Fine = Unit {0}
IsReleaseNote (Full need room) = Full need room ≡ no_room
IsReleaseNote (Worn ordinal) = Unit {0}
IsReleaseNote (NotSpool at) = Unit {0}
IsReleaseNote DiskFault = Unit {0}
IsReleaseNote NoMemory = Unit {0}
IsReleaseNote note = ⊥

-- The note says whether the number is known in the state after it; where it was not to be made known, why.
abbrev pub TellsKnown : SpoolState → ℕ → Result Unit ConfirmFault → Note → Type 0
TellsKnown after number (Ok done) note = ((note ≡ Fine) × IsKnownIn after number) ⊎ ((note ≡ no_room) × (IsKnownIn after number → ⊥))
TellsKnown after number (Err fault) note = note ≡ note_of_confirm fault

-- That number alone was marked as known, in this state of the spool, with this answer. Whatever a crash leaves then stands for the state
-- after it, or for a stage of the change where that failed on the way; and what it left meanwhile is what it could leave before, or
-- stands for a stage.
pub record Releases (s : SpoolState) (number : ℕ) (old new : Moment) (note : Note) : Type 0 where
  pub result : Result Unit ConfirmFault
  pub marks : Marks s (only number) result
  pub tells : TellsKnown (after_mark s (only number) result) number result note
  pub now : (c : List ℕ) → new.image c → StandsForOne (after_mark s (only number) result) (mark_doubt s (only number) result) c
  pub any_moment : LeavesOnly (λ c. old.image c ⊎ IsMidway s (mark_stages s (only number) result) c) old new
  -- No other number becomes known.
  pub alone : (n : ℕ) → IsKnownIn (after_mark s (only number) result) n → IsKnownIn s n ⊎ (n ≡ number)
