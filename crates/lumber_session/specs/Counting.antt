-- What contracts see of a core, and how it stands to the frames so far.
use Rattle.std.specs.Prelude.{◌≡◌, ℕ, ◌+◌, ◌-◌, ◌<◌, ◌≤◌, ◌⊎◌, ◌↔◌, Bool, true, false, IsTrue, List, [], length}
use Rattle.lumber_frame.specs.declared.frame.LumberFrame.{LumberFrame}
use Rattle.lumber_session.specs.declared.limits.TheConstants.{BATCH_FRAMES, BATCH_BYTES}
use Rattle.lumber_session.specs.Staged.{staged, bytes_of}
use Rattle.lumber_session.specs.Windows.{HasLeft}
use Rattle.lumber_session.specs.Batches.{IsCut}

-- How many data frames are to come in the window, how many are staged, how many bytes their texts have,
-- and whether what is staged is to be stored before the next frame.
pub record Core : Type 0 where
  pub left : ℕ
  pub frames : ℕ
  pub bytes : ℕ
  pub due : Bool

-- a core that has seen no frame
abbrev pub unused : Core
unused = record { left = 0; frames = 0; bytes = 0; due = false }

-- the same core with nothing staged
abbrev pub emptied : Core → Core
emptied core = record { left = core.left; frames = 0; bytes = 0; due = false }

-- A core counts less than a batch, unless one is due.
abbrev pub Keeps : Core → Type 0
Keeps core = core.due ≡ false → (core.frames < BATCH_FRAMES) × (core.bytes < BATCH_BYTES)

-- what the core counts is staged by these frames
pub record CountsFor (core : Core) (rest : List LumberFrame) : Type 0 where
  pub frames : core.frames ≡ length (staged rest)
  pub bytes : core.bytes ≡ bytes_of (staged rest)

-- The core stands after these frames: it counts what is to come in their last window, and what is
-- staged after their last batch. Where a batch is due, it ended with the last of them.
pub record IsBehind (frames : List LumberFrame) (core : Core) : Type 0 where
  pub batches : List (List LumberFrame)
  pub rest : List LumberFrame
  pub cut : IsCut frames batches rest
  pub left : HasLeft frames core.left
  pub counts : core.due ≡ false → CountsFor core rest
  pub ended : core.due ≡ true → rest ≡ []

-- What a W frame of this size makes of a core, and whether what is staged is to be stored first.
pub record Opened (size : ℕ) (old : Core) (ends : Bool) (new : Core) : Type 0 where
  pub none : size ≡ 0 → new.left ≡ old.left
  pub left : 0 < size → new.left ≡ size
  pub frames : new.frames ≡ old.frames
  pub bytes : new.bytes ≡ old.bytes
  pub due : new.due ≡ ends
  pub exactly : IsTrue ends ↔ ((0 < size) × (0 < old.frames))

-- What a data frame with a text of this length makes of a core, and whether a batch ends with it.
pub record Counted (len : ℕ) (old : Core) (ends : Bool) (new : Core) : Type 0 where
  pub left : new.left ≡ old.left - 1
  pub frames : new.frames ≡ old.frames + 1
  pub bytes : new.bytes ≡ old.bytes + len
  pub due : new.due ≡ ends
  pub exactly : IsTrue ends ↔ ((old.left ≤ 1) ⊎ ((BATCH_FRAMES ≤ old.frames + 1) ⊎ (BATCH_BYTES ≤ old.bytes + len)))
