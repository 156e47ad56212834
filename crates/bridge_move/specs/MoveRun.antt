-- What a call of `bridge_move` did.
use Rattle.std.specs.Prelude.{◌≡◌, ◌⊎◌, ℕ, Bool, List, [], Result, IfErr, IsOk}
use Rattle.edge_disk.specs.Disk.{Moment, LeavesOnly}
use Rattle.spool_state.specs.SpoolState.{SpoolState}
use Rattle.spool_state.specs.Image.{StandsFor}
use Rattle.spool_log.specs.declared.fault.RecoverFault.{RecoverFault}
use Rattle.spool_log.specs.declared.memory.Memory.{Memory}
use Rattle.spool_log.specs.declared.opening.Opening.TheVariants.{Keep}
use Rattle.spool_log.specs.Opening.{IsRefusedAs}
use Rattle.spool_log.specs.State.{View, view}
use Rattle.spool_move.specs.declared.fault.MoveFault.{MoveFault}
use Rattle.spool_move.specs.Moves.{Moves, IsAnyMoment}
use Rattle.spool_move.specs.Said.{IsSaidBy}
use Rattle.spool_move.specs.Turns.{LeavesBoth}
use Rattle.conn_serve.specs.Endings.{CountsFaults}
use Rattle.notes.specs.declared.note.Note.{Note}
use Rattle.notes.specs.declared.note.Note.TheVariants.{Usage, NoMemory, WriteFault}
use Rattle.bridge_words.specs.Words.{IsMove, IsNoMove, IsSomeMove}
use Rattle.bridge_parts.specs.Pending.{pending_in}
use Rattle.bridge_parts.specs.Refused.{note_of_recover}
use Rattle.bridge_parts.specs.Run.{OutputRun, IsSilent}
use Rattle.bridge_move.specs.declared.moved.Moved.{Moved}
use Rattle.bridge_move.specs.Ended.{IsMoveNote, TellsDisks, IsTold}

-- The device was not opened: it breaks a rule, the first one at that place, or a call of the disk failed, or no memory was found. Whatever
-- a crash leaves of it is what it could leave before.
pub record IsClosed (tells : Type 0) (old new : Moment) (note : Note) : Type 0 where
  pub fault : RecoverFault
  pub note_is : note ≡ note_of_recover fault
  pub why : tells → IsRefusedAs Keep old.reads fault
  pub any_moment : tells → LeavesOnly old.image old new

-- The device was opened, and nothing was done with it: it stands for a spool, and whatever a crash leaves is what it could leave before.
pub record IsOpenedOnly (old new : Moment) : Type 0 where
  pub state : SpoolState
  pub stood : StandsFor state old.reads
  pub any_moment : LeavesOnly old.image old new

-- What the two disks of a move tell: whether each tells what it reads, and what it tells at a moment. The source is the first.
pub record TwoDisks (D E : Type 0) : Type 1 where
  pub tells : Type 0
  pub tells' : Type 0
  pub on : D → Moment
  pub onto : E → Moment

abbrev pub two_disks : {D E : Type 0} (tells tells' : Type 0) (on : D → Moment) (onto : E → Moment) → TwoDisks D E
two_disks tells tells' on onto = record { tells = tells; tells' = tells'; on = on; onto = onto }

-- both disks as they are handed back
abbrev pub disks_in : {D E : Type 0} → Moved D E → D × E
disks_in moved = (moved.source, moved.target)

-- What two open spools show: the source's, and the target's.
pub record Views : Type 1 where
  pub source : View
  pub target : View

abbrev pub views : View → View → Views
views source target = record { source = source; target = target }

-- A move began with what both devices stood for. This is what came of both, by the answer, and what a crash left of both at any moment.
pub record MovesFromDevices {D E : Type 0} (disks : TwoDisks D E) (tag : ℕ) (result : Result ℕ MoveFault) (old new : D × E) (shown : Views) : Type 0 where
  pub source_state : SpoolState
  pub target_state : SpoolState
  pub source_stood : StandsFor source_state (disks.on old.0).reads
  pub target_stood : StandsFor target_state (disks.onto old.1).reads
  pub moves : Moves tag source_state target_state result shown.source shown.target
  pub any_moment : LeavesBoth disks.on disks.onto
      (IsAnyMoment tag source_state [] target_state [] (disks.on old.0) (disks.onto old.1)) old.0 old.1 new.0 new.1

-- Both devices were opened. The answer of the move, what was printed after it, and what memory has of both spools then. Where all entries
-- were moved the source has none left, and so the line says.
pub record MovesOpened {D E : Type 0} (disks : TwoDisks D E) (tag : ℕ) (old new : D × E) (output : OutputRun) (note : Note) : Type 0 where
  pub result : Result ℕ MoveFault
  pub source_memory : Memory
  pub source_doubt : Bool
  pub target_memory : Memory
  pub target_doubt : Bool
  pub told : IsTold result (pending_in source_memory) output note
  pub said : IfErr result (IsSaidBy source_memory target_memory)
  pub none_left : IsOk result → disks.tells → disks.tells' → pending_in source_memory ≡ 0
  pub moved : disks.tells → disks.tells' → MovesFromDevices disks tag result old new
      (views (view source_memory source_doubt (disks.on new.0)) (view target_memory target_doubt (disks.onto new.1)))

-- The source was not opened, and then the target was left alone; or the target was not; or both were, and entries were moved. Nothing was
-- printed but after a move.
abbrev pub IsMoved : {D E : Type 0} → TwoDisks D E → ℕ → D × E → D × E → OutputRun → Note → Type 0
IsMoved disks tag old new output note =
    (IsClosed disks.tells (disks.on old.0) (disks.on new.0) note × (new.1 ≡ old.1) × IsSilent output)
    ⊎ (((disks.tells → IsOpenedOnly (disks.on old.0) (disks.on new.0))
    × IsClosed disks.tells' (disks.onto old.1) (disks.onto new.1) note × IsSilent output)
    ⊎ MovesOpened disks tag old new output note)

-- nothing was done
pub record IsLeftAlone {D E : Type 0} (old new : D × E) (output : OutputRun) : Type 0 where
  pub source_same : new.0 ≡ old.0
  pub target_same : new.1 ≡ old.1
  pub silent : IsSilent output

-- What a call with these words did that ended with this note.
pub record IsMoveRun {D E : Type 0} (disks : TwoDisks D E) (words : List (List ℕ)) (old new : D × E) (output : OutputRun) (note : Note) : Type 0 where
  -- A call of one of the disks, or a write of the output, failed exactly where the note says so.
  pub calls : TellsDisks note (disks.on old.0) (disks.on new.0) (disks.onto old.1) (disks.onto new.1)
  pub writes : CountsFaults (note ≡ WriteFault) output.faults output.faults_after
  -- The words move entries, or they don't and the note says so and nothing was done; or no memory was found for reading them.
  pub which : IsSomeMove words ⊎ (IsNoMove words ⊎ (note ≡ NoMemory))
  pub known : (note ≡ Usage) ⊎ IsMoveNote note
  pub usage : note ≡ Usage → IsNoMove words
  pub no_move : IsNoMove words → ((note ≡ Usage) ⊎ (note ≡ NoMemory)) × IsLeftAlone old new output
  -- Where they move entries, what was done is that; or nothing, where no memory was found for reading them.
  pub done : (path : List ℕ) (tag : ℕ) → IsMove path tag words
      → ((note ≡ NoMemory) × IsLeftAlone old new output) ⊎ IsMoved disks tag old new output note
