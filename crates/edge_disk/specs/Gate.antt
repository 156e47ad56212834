-- A piece after a gate. The gate is one byte: 1 is open, any other byte is closed.
use Rattle.std.specs.Prelude.{◌≡◌, ◌≢◌, ◌⊎◌, ℕ, ◌+◌, List, ◌∷◌, length, slice_index}
use Rattle.foundation.specs.Bytes.{put, SameBut}
use Rattle.edge_disk.specs.Disk.{Moment}

-- The gate is closed, or the piece stands whole after the open gate; all else is as it was.
-- With no piece: the gate alone may have changed.
pub record IsGateStep (gate : ℕ) (piece old c : List ℕ) : Type 0 where
  pub outside : SameBut gate (length piece + 1) old c
  pub inside : (slice_index c gate ≢ 1) ⊎ (c ≡ put gate (1 ∷ piece) old)

-- by this change it comes from what a crash at that moment may leave
abbrev pub ComesFrom : Moment → (List ℕ → List ℕ → Type 0) → List ℕ → Type 0
ComesFrom m Q c = (d : List ℕ) × m.image d × Q d c

-- Bytes of a disk whose gate is still closed, and bytes that come after them while the piece is written behind the gate and the gate
-- is opened: both come from one image of m.
pub record GoesBehind (m : Moment) (gate : ℕ) (piece now torn : List ℕ) : Type 0 where
  pub from : List ℕ
  pub was : m.image from
  pub before : IsGateStep gate piece from now
  pub closed : slice_index now gate ≢ 1
  pub after : IsGateStep gate piece from torn
