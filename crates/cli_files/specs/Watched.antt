-- What was done over disks that are watched meanwhile.
use Rattle.std.specs.Prelude.{◌≡◌, ℕ, List}
use Rattle.notes.specs.declared.note.Note.{Note}
use Rattle.bridge_parts.specs.Run.{OutputRun}
use Rattle.bridge_move.specs.MoveRun.{IsMoveRun, TwoDisks, two_disks}
use Rattle.cli_parts.specs.declared.progress.Watched.{Watched}

-- A move was done over two disks that are watched: those that were given, and those that are handed back.
abbrev pub MovesWatched : {D E : Type 0} → TwoDisks D E → List (List ℕ) → D × E → D × E → OutputRun → Note → Type 0
MovesWatched {D} {E} disks words old new output note =
    (before after : Watched D × Watched E) × (before.0.disk ≡ old.0) × (after.0.disk ≡ new.0) × (before.1.disk ≡ old.1) × (after.1.disk ≡ new.1)
    × IsMoveRun (two_disks disks.tells disks.tells' (λ (watched : Watched D). disks.on watched.disk) (λ (watched : Watched E). disks.onto watched.disk))
    words before after output note
