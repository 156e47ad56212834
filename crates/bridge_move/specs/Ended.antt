-- How a move between two spools that are open ended.
use Rattle.std.specs.Prelude.{◌≡◌, ◌⊎◌, ℕ, Bool, false, [], Result, Ok, Err, IfErr}
use Rattle.edge_disk.specs.Calls.{Calls}
use Rattle.edge_disk.specs.declared.disk.Disk.{Ghosts as Disks}
use Rattle.edge_disk.specs.Disk.{Moment}
use Rattle.spool_state.specs.SpoolState.{SpoolState}
use Rattle.spool_log.specs.declared.memory.Memory.{Memory}
use Rattle.spool_log.specs.declared.spool.Spool.{Spool}
use Rattle.spool_log.specs.State.{IsIn, view}
use Rattle.spool_move.specs.declared.fault.MoveFault.{MoveFault}
use Rattle.spool_move.specs.declared.fault.MoveFault.TheVariants as Fault
use Rattle.spool_move.specs.Moves.{Moves, IsAnyMoment}
use Rattle.spool_move.specs.Said.{IsSaidBy}
use Rattle.spool_move.specs.Turns.{LeavesBoth}
use Rattle.notes.specs.declared.note.Note.{Note}
use Rattle.notes.specs.declared.note.Note.TheVariants.{Fine, NotSpool, Full, TooLarge, NoMemory, WriteFault, DiskFault, RunsSpent, Spent, Worn, Strange}
use Rattle.bridge_words.specs.Lines.{move_line}
use Rattle.bridge_parts.specs.Pending.{pending_in}
use Rattle.bridge_parts.specs.Run.{OutputRun, IsSilent}
use Rattle.bridge_parts.specs.Written.{IsPrinted}
use Rattle.bridge_move.specs.declared.moved.Moved.{Moved}

-- the note of the same name, and for a disk that failed one, whichever disk that was
abbrev pub note_of_move : MoveFault → Note
note_of_move (Fault.Strange number) = Strange number
note_of_move (Fault.TooLarge need most) = TooLarge need most
note_of_move (Fault.Spent at) = Spent at
note_of_move (Fault.Full need free) = Full need free
note_of_move (Fault.Worn ordinal) = Worn ordinal
note_of_move (Fault.NotSpool at) = NotSpool at
note_of_move Fault.SourceFault = DiskFault
note_of_move Fault.TargetFault = DiskFault
note_of_move Fault.NoMemory = NoMemory

-- how the words `move TARGET TAG` may end
abbrev pub IsMoveNote : Note → Type 0
IsMoveNote Fine = Unit {0}
IsMoveNote (NotSpool at) = Unit {0}
IsMoveNote (Full need free) = Unit {0}
IsMoveNote (TooLarge need most) = Unit {0}
IsMoveNote NoMemory = Unit {0}
IsMoveNote WriteFault = Unit {0}
IsMoveNote DiskFault = Unit {0}
IsMoveNote (RunsSpent run) = Unit {0}
IsMoveNote (Spent at) = Unit {0}
IsMoveNote (Worn ordinal) = Unit {0}
IsMoveNote (Strange number) = Unit {0}
IsMoveNote note = ⊥

-- A call of one of the two disks failed exactly where the note says so.
abbrev pub TellsDisks : Note → Moment → Moment → Moment → Moment → Type 0
TellsDisks note from from' onto onto' =
    (Calls (note ≡ DiskFault) from from' × Calls ⊥ onto onto') ⊎ (Calls ⊥ from from' × Calls (note ≡ DiskFault) onto onto')

-- What was printed after a move with this answer: where all were moved, how many the target took and how many the source has left, as far
-- as the note says; else nothing, and the note says why.
abbrev pub IsTold : Result ℕ MoveFault → ℕ → OutputRun → Note → Type 0
IsTold (Ok count) left output note = IsPrinted note (move_line count left) output.taken output.taken_after
IsTold (Err fault) left output note = (note ≡ note_of_move fault) × IsSilent output

-- a spool that is open and not in doubt is in that state
abbrev pub IsSureIn : {D : Type 0} {disks : Disks D} → SpoolState → Spool D disks → Type 0
IsSureIn {disks = disks} s spool = IsIn s [] (view spool.memory false (disks.moment spool.disk))

-- A move between two spools that were open, not in doubt, ended so. The answer of the move, what was printed after it, and what both are
-- then: what memory has of them, and whether they are in doubt.
pub record EndsOpen {D E : Type 0} {disks : Disks D} {targets : Disks E} (tag : ℕ) (source : Spool D disks) (target : Spool E targets)
    (ended : Moved D E) (output : OutputRun) : Type 0 where
  pub result : Result ℕ MoveFault
  pub source_memory : Memory
  pub source_doubt : Bool
  pub target_memory : Memory
  pub target_doubt : Bool
  pub told : IsTold result (pending_in source_memory) output ended.note
  pub said : IfErr result (IsSaidBy source_memory target_memory)
  pub moves : (s t : SpoolState) → disks.tells → targets.tells → IsSureIn s source → IsSureIn t target
      → Moves tag s t result (view source_memory source_doubt (disks.moment ended.source))
      (view target_memory target_doubt (targets.moment ended.target))

-- Whatever a crash leaves of both disks at any moment of the move, it is what it could leave before, or both spools in the midst of it.
abbrev pub LeavesOpen : {D E : Type 0} {disks : Disks D} {targets : Disks E} → ℕ → Spool D disks → Spool E targets → Moved D E → Type 0
LeavesOpen {disks = disks} {targets = targets} tag source target ended =
    (s t : SpoolState) → disks.tells → targets.tells → IsSureIn s source → IsSureIn t target
    → LeavesBoth disks.moment targets.moment (IsAnyMoment tag s [] t [] (disks.moment source.disk) (targets.moment target.disk))
    source.disk target.disk ended.source ended.target
