-- The layout of a frame of Lumberjack, version 2: the byte `2`, a type byte, and what stands after them.
use Rattle.std.specs.Prelude.{◌≡◌, ℕ, zero, suc, ◌^◌, ◌<◌, ◌≤◌, List, [], ◌∷◌, ◌++◌, length}
use Rattle.std.specs.Int.{from_be_bytes, to_be_bytes}
use mir.Syntax.{w32}
use Rattle.event_form.specs.declared.limits.TheConstants.{MOST_TEXT, MOST_PAIRS}
use Rattle.lumber_frame.specs.declared.limits.TheConstants.{MOST_FRAMES}
use Rattle.event_form.specs.Event.{pairs_text, ArePairs}
use Rattle.lumber_frame.specs.declared.frame.LumberFrame.{LumberFrame}
use Rattle.lumber_frame.specs.declared.frame.LumberFrame.TheVariants.{Window, Pairs, Json, Ack}
use Rattle.lumber_frame.specs.declared.side.Side.{Side}
use Rattle.lumber_frame.specs.declared.side.Side.TheVariants.{Receiver, Sender}

-- four bytes that write the number in network order
pub record IsNumber (n : ℕ) (b : List ℕ) : Type 0 where
  pub four : length b ≡ 4
  pub value : from_be_bytes w32 b ≡ n

-- a key or a value: its length, and so many bytes
pub record IsString (b : List ℕ) : Type 0 where
  pub number : List ℕ
  pub string : List ℕ
  pub whole : b ≡ number ++ string
  pub number_is : IsNumber (length string) number

-- so many pairs, each a key and a value
abbrev pub ArePairsOf : ℕ → List ℕ → Type 0
ArePairsOf zero b = b ≡ []
ArePairsOf (suc n) b = (key : List ℕ) × (value : List ℕ) × (more : List ℕ) × IsString key × IsString value × (b ≡ key ++ (value ++ more)) × ArePairsOf n more

-- after the type D: the sequence number, the pair count, and the pairs, which are the text
pub record IsData (seq : ℕ) (text b : List ℕ) : Type 0 where
  pub sequence : List ℕ
  pub count : List ℕ
  pub pairs : ℕ
  pub whole : b ≡ sequence ++ (count ++ text)
  pub sequence_is : IsNumber seq sequence
  pub count_is : IsNumber pairs count
  pub few : pairs ≤ MOST_PAIRS
  pub pairs_are : ArePairsOf pairs text
  pub short : length text ≤ MOST_TEXT

-- after the type J: the sequence number, the payload length, and the payload, which is the text
pub record IsPayload (seq : ℕ) (text b : List ℕ) : Type 0 where
  pub sequence : List ℕ
  pub number : List ℕ
  pub whole : b ≡ sequence ++ (number ++ text)
  pub sequence_is : IsNumber seq sequence
  pub number_is : IsNumber (length text) number
  pub short : length text ≤ MOST_TEXT

-- the bytes spell the frame: `2`, the type, and what stands after it
abbrev pub IsSpelling : LumberFrame → List ℕ → Type 0
-- W, and the window size
IsSpelling (Window size) b = (rest : List ℕ) × (b ≡ 50 ∷ 87 ∷ rest) × IsNumber size rest × (size ≤ MOST_FRAMES)
-- D
IsSpelling (Pairs seq text) b = (rest : List ℕ) × (b ≡ 50 ∷ 68 ∷ rest) × IsData seq text rest
-- J
IsSpelling (Json seq text) b = (rest : List ℕ) × (b ≡ 50 ∷ 74 ∷ rest) × IsPayload seq text rest
-- A, and the sequence number
IsSpelling (Ack seq) b = (rest : List ℕ) × (b ≡ 50 ∷ 65 ∷ rest) × IsNumber seq rest

-- which frames a side reads: a receiver all but acknowledgments, a sender only these
abbrev pub MayCome : Side → LumberFrame → Type 0
MayCome Receiver (Window size) = Unit {0}
MayCome Receiver (Pairs seq text) = Unit {0}
MayCome Receiver (Json seq text) = Unit {0}
MayCome Receiver (Ack seq) = ⊥
MayCome Sender (Window size) = ⊥
MayCome Sender (Pairs seq text) = ⊥
MayCome Sender (Json seq text) = ⊥
MayCome Sender (Ack seq) = Unit {0}

-- the bytes spell the frame, and the side reads such frames
abbrev pub Spells : Side → LumberFrame → List ℕ → Type 0
Spells side f b = MayCome side f × IsSpelling f b

-- the limits of a frame
abbrev pub IsFrame : LumberFrame → Type 0
IsFrame (Window size) = size ≤ MOST_FRAMES
IsFrame (Pairs seq text) = (seq < 2 ^ 32) × (length text ≤ MOST_TEXT) × ArePairs text
IsFrame (Json seq text) = (seq < 2 ^ 32) × (length text ≤ MOST_TEXT)
IsFrame (Ack seq) = seq < 2 ^ 32

-- a frame that the side reads, within the limits
abbrev pub IsFrameFor : Side → LumberFrame → Type 0
IsFrameFor side f = MayCome side f × IsFrame f

-- what is written for a W frame
abbrev pub window_text : ℕ → List ℕ
window_text size = 50 ∷ 87 ∷ to_be_bytes w32 size

-- for a D frame of so many pairs
abbrev pub data_text : ℕ → ℕ → List ℕ → List ℕ
data_text seq pairs text = 50 ∷ 68 ∷ (to_be_bytes w32 seq ++ (to_be_bytes w32 pairs ++ text))

-- for a J frame, its payload of any length
abbrev pub json_text : ℕ → List ℕ → List ℕ
json_text seq payload = 50 ∷ 74 ∷ (to_be_bytes w32 seq ++ (to_be_bytes w32 (length payload) ++ payload))

-- for an A frame
abbrev pub ack_text : ℕ → List ℕ
ack_text seq = 50 ∷ 65 ∷ to_be_bytes w32 seq

-- the bytes are what is written for the frame; the pair count is that of the text's pairs
abbrev pub IsWritten : LumberFrame → List ℕ → Type 0
IsWritten (Window size) b = b ≡ window_text size
IsWritten (Pairs seq text) b = (pairs : List (List ℕ × List ℕ)) × (text ≡ pairs_text pairs) × (b ≡ data_text seq (length pairs) text)
IsWritten (Json seq text) b = b ≡ json_text seq text
IsWritten (Ack seq) b = b ≡ ack_text seq

-- what is written for the frame is added
abbrev pub AddsFrame : LumberFrame → List ℕ → List ℕ → Type 0
AddsFrame f old new = (text : List ℕ) × IsWritten f text × (new ≡ old ++ text)

-- No spelling is a front of another one, whatever follows.
abbrev pub SpellsOnce : Type 0
SpellsOnce = (f g : LumberFrame) (x y a b : List ℕ) → IsSpelling f x → IsSpelling g y → x ++ a ≡ y ++ b → (f ≡ g) × (x ≡ y) × (a ≡ b)

-- What is written for a frame within the limits is a spelling of it.
abbrev pub WrittenSpells : Type 0
WrittenSpells = (f : LumberFrame) (b : List ℕ) → IsFrame f → IsWritten f b → IsSpelling f b
