-- Calls of `bridge_move` are runs of a move.
use Rattle.std.specs.Prelude.{◌≡◌, ℕ, List, Result, IsOk}
use Rattle.spool_state.specs.SpoolState.{SpoolState}
use Rattle.spool_state.specs.Image.{StandsFor}
use Rattle.spool_move.specs.declared.fault.MoveFault.{MoveFault}
use Rattle.spool_move.specs.Runs.{IsRun}
use Rattle.spool_move.specs.Turns.{Turn}
use Rattle.notes.specs.declared.note.Note.{Note}
use Rattle.notes.specs.declared.note.Note.TheVariants.{Fine}
use Rattle.bridge_words.specs.Words.{IsMove}
use Rattle.bridge_parts.specs.Run.{OutputRun}
use Rattle.bridge_move.specs.MoveRun.{IsMoveRun, TwoDisks}

-- these two disks went on as in some run of a move with this tag, which was well if the note says so
pub record IsRunBy {D E : Type 0} (disks : TwoDisks D E) (tag : ℕ) (old new : D × E) (note : Note) : Type 0 where
  pub result : Result ℕ MoveFault
  pub turns : List (Turn D E)
  pub is : IsRun disks.on disks.onto tag result old.0 old.1 turns new.0 new.1
  pub well : note ≡ Fine → IsOk result

-- Whatever the words of the move and the note were, over two devices that stand for spools.
abbrev pub EachCallIsRun : {D E : Type 0} → TwoDisks D E → D × E → D × E → OutputRun → Type 0
EachCallIsRun disks old new output =
    (words : List (List ℕ)) (path : List ℕ) (tag : ℕ) (note : Note) → IsMove path tag words
    → IsMoveRun disks words old new output note → disks.tells → disks.tells'
    → (s t : SpoolState) → StandsFor s (disks.on old.0).reads → StandsFor t (disks.onto old.1).reads
    → IsRunBy disks tag old new note
