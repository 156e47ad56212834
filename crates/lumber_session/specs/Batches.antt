-- The batches that a list of frames is cut into.
use Rattle.std.specs.Prelude.{◌≡◌, ◌<◌, ◌≤◌, ◌⊎◌, List, [], ◌∷◌, ◌++◌, length}
use Rattle.std.specs.List.{All}
use Rattle.lumber_frame.specs.declared.frame.LumberFrame.{LumberFrame}
use Rattle.lumber_frame.specs.declared.frame.LumberFrame.TheVariants.{Window, Pairs, Json, Ack}
use Rattle.lumber_session.specs.declared.limits.TheConstants.{BATCH_FRAMES, BATCH_BYTES}
use Rattle.lumber_session.specs.Staged.{Staged, staged, bytes_of}
use Rattle.lumber_session.specs.Windows.{NextCompletes}

-- staged events are enough for a batch, by their number or by the bytes of their texts
abbrev pub AreEnough : List Staged → Type 0
AreEnough events = (BATCH_FRAMES ≤ length events) ⊎ (BATCH_BYTES ≤ bytes_of events)

-- A batch ends with a data frame that completes its window, or by which enough is staged. The frames
-- before the batch come first, then those of the batch before this one.
abbrev pub EndsData : List LumberFrame → List LumberFrame → LumberFrame → Type 0
EndsData before front f = NextCompletes (before ++ front) ⊎ AreEnough (staged (front ++ f ∷ []))

-- A batch ends with this frame.
abbrev pub Ends : List LumberFrame → List LumberFrame → LumberFrame → Type 0
-- W above 0, where something is staged: the old window is cut, for it isn't complete
Ends before front (Window size) = (0 < size) × (0 < length (staged front))
Ends before front (Pairs seq text) = EndsData before front (Pairs seq text)
Ends before front (Json seq text) = EndsData before front (Json seq text)
Ends before front (Ack seq) = ⊥

-- no batch ends within these frames, which stand after those before the batch
abbrev pub EndsNowhere : List LumberFrame → List LumberFrame → Type 0
EndsNowhere before frames = (front : List LumberFrame) (f : LumberFrame) (more : List LumberFrame) → frames ≡ front ++ f ∷ more → ¬ Ends before front f

-- The frames are a batch: it ends with the last of them, and not before.
pub record IsBatch (before frames : List LumberFrame) : Type 0 where
  pub front : List LumberFrame
  pub last : LumberFrame
  pub whole : frames ≡ front ++ last ∷ []
  pub open_before : EndsNowhere before front
  pub ends : Ends before front last

-- the frames after others are these batches, one after another, and a rest in which none ends
abbrev pub AreBatches : List LumberFrame → List LumberFrame → List (List LumberFrame) → List LumberFrame → Type 0
AreBatches before frames [] rest = (frames ≡ rest) × EndsNowhere before rest
AreBatches before frames (b ∷ bs) rest = (more : List LumberFrame) × (frames ≡ b ++ more) × IsBatch before b × AreBatches (before ++ b) more bs rest

-- the frames of a connection are cut into these batches and this rest
abbrev pub IsCut : List LumberFrame → List (List LumberFrame) → List LumberFrame → Type 0
IsCut frames batches rest = AreBatches [] frames batches rest

-- Frames are cut in one way.
abbrev pub OneCut : Type 0
OneCut = (frames : List LumberFrame) (bs cs : List (List LumberFrame)) (r s : List LumberFrame) → IsCut frames bs r → IsCut frames cs s → (bs ≡ cs) × (r ≡ s)

-- Any frames are cut in some way.
abbrev pub SomeCut : Type 0
SomeCut = (frames : List LumberFrame) → (batches : List (List LumberFrame)) × (rest : List LumberFrame) × IsCut frames batches rest

-- a batch stages at least one event, and at most `BATCH_FRAMES`
abbrev pub HasEvents : List LumberFrame → Type 0
HasEvents batch = (0 < length (staged batch)) × (length (staged batch) ≤ BATCH_FRAMES)

-- Each batch of frames stages 1 to `BATCH_FRAMES` events; the rest fewer, with fewer bytes than `BATCH_BYTES`.
abbrev pub BatchSizes : Type 0
BatchSizes = (frames : List LumberFrame) (batches : List (List LumberFrame)) (rest : List LumberFrame) → IsCut frames batches rest → All HasEvents batches × (length (staged rest) < BATCH_FRAMES) × (bytes_of (staged rest) < BATCH_BYTES)
