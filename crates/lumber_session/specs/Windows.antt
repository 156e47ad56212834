-- The windows that a writer's frames begin and complete.
use Rattle.std.specs.Prelude.{◌≡◌, ℕ, ◌+◌, ◌-◌, ◌<◌, ◌≤◌, ◌⊎◌, List, ◌∷◌, ◌++◌, length}
use Rattle.std.specs.List.{All}
use Rattle.lumber_frame.specs.declared.frame.LumberFrame.{LumberFrame}
use Rattle.lumber_frame.specs.declared.frame.LumberFrame.TheVariants.{Window, Pairs, Json, Ack}
use Rattle.lumber_session.specs.Staged.{staged}

-- the frame begins no window: it is no W, or a W of 0
abbrev pub BeginsNone : LumberFrame → Type 0
BeginsNone (Window size) = size ≡ 0
BeginsNone (Pairs seq text) = Unit {0}
BeginsNone (Json seq text) = Unit {0}
BeginsNone (Ack seq) = Unit {0}

-- The last window that the frames begin: its W, which is above 0, and the frames since.
pub record HasWindow (frames : List LumberFrame) (size : ℕ) (since : List LumberFrame) : Type 0 where
  pub earlier : List LumberFrame
  pub whole : frames ≡ earlier ++ Window size ∷ since
  pub above : 0 < size
  pub last : All BeginsNone since

-- A data frame after these completes its window: no window that they begin has more than one frame to
-- come. So a frame outside a window is a window of one.
abbrev pub NextCompletes : List LumberFrame → Type 0
NextCompletes frames = (size : ℕ) (since : List LumberFrame) → HasWindow frames size since → size ≤ length (staged since) + 1

-- how many data frames are still to come in the last window, 0 where there is none
abbrev pub HasLeft : List LumberFrame → ℕ → Type 0
HasLeft frames n = (All BeginsNone frames × (n ≡ 0)) ⊎ ((size : ℕ) × (since : List LumberFrame) × HasWindow frames size since × (n ≡ size - length (staged since)))
