-- What a run over the bytes of a frame read, without building the frame.
use Rattle.std.specs.Prelude.{◌≡◌, ℕ, ◌+◌, ◌<◌, ◌≤◌, List, ◌++◌, length, take, drop, Option, Some, None}
use Rattle.lumber_frame.specs.declared.fault.LumberWhy.{LumberWhy}
use Rattle.lumber_frame.specs.declared.field.Field.TheVariants.{VersionByte}
use Rattle.lumber_frame.specs.declared.field.Phase.{Phase}
use Rattle.lumber_frame.specs.declared.field.Whole.{Whole}
use Rattle.lumber_frame.specs.declared.field.Turn.TheVariants.{Done}
use Rattle.lumber_frame.specs.declared.frame.LumberFrame.{LumberFrame}
use Rattle.lumber_frame.specs.declared.run.Ran.{Ran}
use Rattle.lumber_frame.specs.declared.run.Ran.TheVariants.{Rest, Ends, Bad}
use Rattle.lumber_frame.specs.declared.run.Judged.{Judged}
use Rattle.lumber_frame.specs.declared.side.Side.{Side}
use Rattle.lumber_frame.specs.declared.limits.TheConstants.{ROOM}
use Rattle.stream_grammar.specs.Framing.{AreSpelled}
use Rattle.stream_grammar.specs.Splitting as stream
use Rattle.stream_grammar.specs.Splitting.{Layout}
use Rattle.lumber_frame.specs.Broken.{Broken}
use Rattle.lumber_frame.specs.Machine.{size_of}
use Rattle.lumber_frame.specs.Places.{Reaches, IsUnfinished, StandsBehind, frame_of}
use Rattle.lumber_frame.specs.Spelling.{IsFrameFor, Spells}

-- the first so many bytes spell a frame
pub record Ended (side : Side) (b : List ℕ) (w : Whole) (n : ℕ) : Type 0 where
  pub some : 0 < n
  pub inside : n ≤ length b
  pub behind : StandsBehind (Done w) n
  pub spelled : Spells side (frame_of w (take n b)) (take n b)

-- the field at the place is whole, and breaks this rule
pub record Breaks (side : Side) (b : List ℕ) (now : Phase) (why : LumberWhy) : Type 0 where
  pub reaches : Reaches side b now
  pub whole : now.at + size_of now.field ≤ length b
  pub broken : Broken side (take now.at b) (take (size_of now.field) (drop now.at b)) why

-- what a run read of the bytes from a frame's first one on
abbrev pub Runs : Side → List ℕ → Ran → Type 0
Runs side b (Rest now) = IsUnfinished side b now
Runs side b (Ends w n) = Ended side b w n
Runs side b (Bad why now) = Breaks side b now why

-- so many of the bytes spell these frames
pub record Spans (side : Side) (b : List ℕ) (frames : List LumberFrame) (end : ℕ) : Type 0 where
  pub inside : end ≤ length b
  pub spelled : AreSpelled (Spells side) frames (take end b)

-- what follows the frames: a rest that is all, or one after which a field breaks a rule
abbrev pub Stops : Side → List ℕ → List ℕ → Phase → Option LumberWhy → Type 0
Stops side tail rest now None = tail ≡ rest
Stops side tail rest now (Some why) =
    (field : List ℕ) × (more : List ℕ) × (length rest ≡ now.at) × (tail ≡ rest ++ (field ++ more)) × Broken side rest field why

-- the layout of what a side reads
abbrev pub layout : Side → Layout LumberFrame Phase LumberWhy
layout side = record { Spells = Spells side; IsUnfinished = IsUnfinished side; Stops = Stops side; fresh = record { field = VersionByte; at = 0 }; room = ROOM }

-- what the bytes are, and how many of them stand before the fault
abbrev pub Judges : Side → List ℕ → Judged → Type 0
Judges side b j = stream.Judges (layout side) b j.end j.kept j.phase j.fault

-- the first frame of some bytes is this one, without its text, and has so many of them
pub record Finds (side : Side) (bytes : List ℕ) (w : Whole) (n : ℕ) : Type 0 where
  pub text : List ℕ
  pub more : List ℕ
  pub spelled : Spells side (frame_of w text) text
  pub whole : bytes ≡ text ++ more
  pub long : length text ≡ n
  pub limits : IsFrameFor side (frame_of w text)
  pub behind : StandsBehind (Done w) n
