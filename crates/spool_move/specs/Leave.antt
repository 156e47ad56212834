-- When a number of the source may be given up.
use Rattle.std.specs.Prelude.{◌≡◌, ℕ, ◌<◌, List, Any}
use Rattle.std.specs.List.{Contains}
use Rattle.edge_disk.specs.Disk.{Moment}
use Rattle.spool_state.specs.SpoolState.{SpoolState, end}
use Rattle.spool_state.specs.Left.{NumberedEntry, left}
use Rattle.spool_state.specs.Image.{StandsFor}
use Rattle.spool_move.specs.Moved.{IsCopy}

-- whatever a crash leaves of the target has a copy of the entry, which isn't known as confirmed
abbrev pub IsKept : ℕ → NumberedEntry → Moment → Type 0
IsKept tag one onto = (d : List ℕ) → onto.image d → (t : SpoolState) × StandsFor t d × Any (λ there. IsCopy tag one there.entry) (left t)

-- The number is one of the source's, and where its entry is left there, the target keeps a copy.
pub record IsSafe (tag : ℕ) (from onto : Moment) (number : ℕ) : Type 0 where
  pub state : SpoolState
  pub stands : StandsFor state from.reads
  pub within : number < end state
  pub kept : (one : NumberedEntry) → Contains (left state) one → one.number ≡ number → IsKept tag one onto

-- A number may be given up once that is so. Over disks that don't tell what they read nothing is asked of them.
abbrev pub MayMove : {D E : Type 0} → Type 0 → (D → Moment) → Type 0 → (E → Moment) → ℕ → (ℕ → Type 0) → Type 0
MayMove {D} {E} tells moment tells' moment' tag Release =
    (from : D) (onto : E) (number : ℕ) → (tells → tells' → ∥ IsSafe tag (moment from) (moment' onto) number ∥₁) → Release number
