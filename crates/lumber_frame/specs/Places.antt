-- What is kept of an unfinished frame: the field that is read, and its place.
use Rattle.std.specs.Prelude.{◌≡◌, ℕ, ◌+◌, ◌<◌, ◌≤◌, List, [], ◌++◌, drop, length, take}
use Rattle.event_form.specs.declared.limits.TheConstants.{MOST_TEXT}
use Rattle.lumber_frame.specs.declared.field.Field.{Field}
use Rattle.lumber_frame.specs.declared.field.Field.TheVariants.{VersionByte, TypeByte, WindowSize, AckSequence, PairsSequence, JsonSequence, PairCount}
use Rattle.lumber_frame.specs.declared.field.Field.TheVariants.{PayloadLength, Payload, KeyLength, Key, ValueLength, Value}
use Rattle.lumber_frame.specs.declared.field.Phase.{Phase}
use Rattle.lumber_frame.specs.declared.field.Whole.{Whole}
use Rattle.lumber_frame.specs.declared.field.Whole.TheVariants as whole
use Rattle.lumber_frame.specs.declared.field.Turn.{Turn}
use Rattle.lumber_frame.specs.declared.field.Turn.TheVariants.{Go, Done, Bad}
use Rattle.lumber_frame.specs.declared.frame.LumberFrame.{LumberFrame}
use Rattle.lumber_frame.specs.declared.frame.LumberFrame.TheVariants.{Window, Pairs, Json, Ack}
use Rattle.lumber_frame.specs.declared.side.Side.{Side}
use Rattle.stream_grammar.specs.Automaton.{Goes, Ends, Fails, Going, run}
use Rattle.lumber_frame.specs.Machine.{At, Turning, size_of, start, step, turn}

-- the frame of these bytes: its text stands after the first ten
abbrev pub frame_of : Whole → List ℕ → LumberFrame
frame_of (whole.Window size) h = Window size
frame_of (whole.Pairs seq) h = Pairs seq (drop 10 h)
frame_of (whole.Json seq) h = Json seq (drop 10 h)
frame_of (whole.Ack seq) h = Ack seq

-- a field may begin at this place of its frame: strings aren't empty, and texts keep their limit
abbrev pub Stands : Field → ℕ → Type 0
Stands VersionByte at = at ≡ 0
Stands TypeByte at = at ≡ 1
Stands WindowSize at = at ≡ 2
Stands AckSequence at = at ≡ 2
Stands PairsSequence at = at ≡ 2
Stands JsonSequence at = at ≡ 2
Stands (PairCount seq) at = at ≡ 6
Stands (PayloadLength seq) at = at ≡ 6
Stands (Payload seq len) at = (at ≡ 10) × (0 < len) × (len ≤ MOST_TEXT)
Stands (KeyLength seq left) at = (10 ≤ at) × (at ≤ 10 + MOST_TEXT)
Stands (Key seq left len) at = (10 ≤ at) × (0 < len) × (at + len ≤ 10 + MOST_TEXT)
Stands (ValueLength seq left) at = (10 ≤ at) × (at ≤ 10 + MOST_TEXT)
Stands (Value seq left len) at = (10 ≤ at) × (0 < len) × (at + len ≤ 10 + MOST_TEXT)

-- Of these bytes, which begin with a frame's first one, those before the place have brought the machine to
-- the field.
pub record Reaches (side : Side) (b : List ℕ) (now : Phase) : Type 0 where
  pub stands : Stands now.field now.at
  pub inside : now.at ≤ length b
  pub runs : run (step side) start (take now.at b) ≡ Going (At now.field (drop 10 (take now.at b)) [])

-- The same, and the field isn't whole: they are an unfinished frame.
pub record IsUnfinished (side : Side) (b : List ℕ) (now : Phase) : Type 0 where
  pub reaches : Reaches side b now
  pub short : length b < now.at + size_of now.field

-- what a turn makes of the machine, of the bytes of the frame so far
abbrev pub step_of : Turn → List ℕ → Turning
step_of (Go field) h = Goes (At field (drop 10 h) [])
step_of (Done w) h = Ends (frame_of w h)
step_of (Bad w) h = Fails w

-- the place of the field after it, or of the text's end
abbrev pub StandsBehind : Turn → ℕ → Type 0
StandsBehind (Go field) at = Stands field at
StandsBehind (Done (whole.Window size)) at = Unit {0}
StandsBehind (Done (whole.Pairs seq)) at = 10 ≤ at
StandsBehind (Done (whole.Json seq)) at = 10 ≤ at
StandsBehind (Done (whole.Ack seq)) at = Unit {0}
StandsBehind (Bad w) at = Unit {0}

-- What the machine does with a whole field of this value that begins at a place, whatever its bytes and
-- those before it.
abbrev pub Turns : Turn → Side → Field → ℕ → ℕ → Type 0
Turns result side field at n = (h b : List ℕ) → length h ≡ at → length b ≡ size_of field → step_of result (h ++ b) ≡ turn side field (drop 10 h) b n
