-- What a move stored lasts in its target.
use Rattle.std.specs.Prelude.{ℕ, ◌∷◌, List, [], All}
use Rattle.std.specs.List.{Contains}
use Rattle.edge_disk.specs.Disk.{Moment}
use Rattle.spool_state.specs.SpoolState.{SpoolState}
use Rattle.spool_state.specs.Image.{StandsFor}
use Rattle.spool_state.specs.Left.{NumberedEntry, left}
use Rattle.desk_access.specs.History.{IsKept as IsKeptAt}
use Rattle.spool_move.specs.Leave.{IsKept as IsCopied}
use Rattle.spool_move.specs.Moved.{IsCopy}
use Rattle.bridge_laws.specs.Cut.{AreNextOrCut}
use Rattle.bridge_laws.specs.Told.{DiskKind, Telling}

-- Something that a crash could leave of the target had a copy of the source's entry pending, which had a number there.
pub record WasCopied (tag : ℕ) (one : NumberedEntry) (before : Moment) : Type 0 where
  pub bytes : List ℕ
  pub image : before.image bytes
  pub state : SpoolState
  pub stands : StandsFor state bytes
  pub copy : NumberedEntry
  pub pending : Contains (left state) copy
  pub is_copy : IsCopy tag one copy.entry

-- The spool has that copy at that number, or its cursor is past it.
abbrev pub KeepsCopy : ℕ → NumberedEntry → Moment → SpoolState → Type 0
KeepsCopy tag one before s = (was : WasCopied tag one before) × IsKeptAt s was.copy.number (was.copy.entry ∷ [])

-- whatever a crash leaves now stands for a spool that does
abbrev pub IsCopyKept : ℕ → NumberedEntry → Moment → Moment → Type 0
IsCopyKept tag one before now = (c : List ℕ) → now.image c → ∥ ((s : SpoolState) × StandsFor s c × KeepsCopy tag one before s) ∥₁

-- An entry of the source of which the target has a copy, as it has to before the source may give the entry up, stays in the target: also
-- where calls were cut off, or never ended, that of the move among them.
abbrev pub CopyLasts : {D E S K N P : Type 0} (tell : Telling D S K N P) (other : DiskKind E) (Release : ℕ → Type 0) → Type 0
CopyLasts {D = D} tell other Release =
    (target : D) (later : List D) (tag : ℕ) (one : NumberedEntry) → IsCopied tag one (tell.disk.moment target)
    → AreNextOrCut tell other Release target later
    → All (λ next. IsCopyKept tag one (tell.disk.moment target) (tell.disk.moment next)) (target ∷ later)
