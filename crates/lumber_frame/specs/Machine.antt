-- The machine that reads one frame, a field at a time.
use Rattle.std.specs.Prelude.{◌≡◌, ℕ, ◌+◌, ◌-◌, ◌<◌, ◌≤◌, nat_lt, nat_le, ◌==◌, if◌then◌else◌, ◌⊎◌, List, [], ◌∷◌, ◌++◌, length, slice_index}
use Rattle.std.specs.Int.{from_be_bytes}
use mir.Syntax.{w32}
use Rattle.event_form.specs.declared.limits.TheConstants.{MOST_TEXT, MOST_PAIRS}
use Rattle.lumber_frame.specs.declared.limits.TheConstants.{MOST_FRAMES}
use Rattle.lumber_frame.specs.declared.fault.LumberWhy.{LumberWhy}
use Rattle.lumber_frame.specs.declared.fault.LumberWhy.TheVariants.{Version, Kind, Compressed, AckFromWriter, TooLong, TooMany}
use Rattle.lumber_frame.specs.declared.field.Field.{Field}
use Rattle.lumber_frame.specs.declared.field.Field.TheVariants.{VersionByte, TypeByte, WindowSize, AckSequence, PairsSequence, JsonSequence, PairCount}
use Rattle.lumber_frame.specs.declared.field.Field.TheVariants.{PayloadLength, Payload, KeyLength, Key, ValueLength, Value}
use Rattle.lumber_frame.specs.declared.frame.LumberFrame.{LumberFrame}
use Rattle.lumber_frame.specs.declared.frame.LumberFrame.TheVariants.{Window, Pairs, Json, Ack}
use Rattle.lumber_frame.specs.declared.side.Side.{Side}
use Rattle.lumber_frame.specs.declared.side.Side.TheVariants.{Receiver, Sender}
use Rattle.lumber_frame.specs.Spelling.{IsString, ArePairsOf}
use Rattle.stream_grammar.specs.Automaton.{Step, Goes, Ends, Fails}

-- the field that is read, the pair bytes before it, and its own bytes so far
pub data State : Type 0 where
  At : Field → List ℕ → List ℕ → State

-- nothing has been read
abbrev pub start : State
start = At VersionByte [] []

-- how many bytes a field has
abbrev pub size_of : Field → ℕ
size_of VersionByte = 1
size_of TypeByte = 1
size_of WindowSize = 4
size_of AckSequence = 4
size_of PairsSequence = 4
size_of JsonSequence = 4
size_of (PairCount seq) = 4
size_of (PayloadLength seq) = 4
size_of (Payload seq len) = len
size_of (KeyLength seq left) = 4
size_of (Key seq left len) = len
size_of (ValueLength seq left) = 4
size_of (Value seq left len) = len

-- what a whole field tells: a byte, or a number
abbrev pub value_of : Field → List ℕ → ℕ
value_of VersionByte b = slice_index b 0
value_of TypeByte b = slice_index b 0
value_of WindowSize b = from_be_bytes w32 b
value_of AckSequence b = from_be_bytes w32 b
value_of PairsSequence b = from_be_bytes w32 b
value_of JsonSequence b = from_be_bytes w32 b
value_of (PairCount seq) b = from_be_bytes w32 b
value_of (PayloadLength seq) b = from_be_bytes w32 b
value_of (Payload seq len) b = 0
value_of (KeyLength seq left) b = from_be_bytes w32 b
value_of (Key seq left len) b = 0
value_of (ValueLength seq left) b = from_be_bytes w32 b
value_of (Value seq left len) b = 0

-- what the machine does
abbrev pub Turning : Type 0
Turning = Step State LumberFrame LumberWhy

-- the field after a type byte
abbrev pub type_turn : Side → List ℕ → ℕ → Turning
type_turn Receiver text c =
    if c == 87 then Goes (At WindowSize text []) else
    (if c == 68 then Goes (At PairsSequence text []) else
    (if c == 74 then Goes (At JsonSequence text []) else
    (if c == 65 then Fails AckFromWriter else
    (if c == 67 then Fails Compressed else Fails Kind))))
type_turn Sender text c =
    if c == 65 then Goes (At AckSequence text []) else
    (if c == 67 then Fails Compressed else Fails Kind)

-- the next pair, of so many that are left, or the frame's end
abbrev pub pairs_turn : ℕ → ℕ → List ℕ → Turning
pairs_turn seq left text = if left == 0 then Ends (Pairs seq text) else Goes (At (KeyLength seq (left - 1)) text [])

-- the payload, or the frame's end where it is empty
abbrev pub payload_turn : ℕ → List ℕ → ℕ → Turning
payload_turn seq text len = if len == 0 then Ends (Json seq []) else Goes (At (Payload seq len) text [])

-- the key, or the value's length where it is empty
abbrev pub key_turn : ℕ → ℕ → List ℕ → ℕ → Turning
key_turn seq left text len = if len == 0 then Goes (At (ValueLength seq left) text []) else Goes (At (Key seq left len) text [])

-- the value, or what stands after it where it is empty
abbrev pub value_turn : ℕ → ℕ → List ℕ → ℕ → Turning
value_turn seq left text len = if len == 0 then pairs_turn seq left text else Goes (At (Value seq left len) text [])

-- what a whole field does
unfoldable pub turn : Side → Field → List ℕ → List ℕ → ℕ → Turning
turn side VersionByte text b n = if n == 50 then Goes (At TypeByte text []) else Fails Version
turn side TypeByte text b n = type_turn side text n
turn side WindowSize text b n = if nat_le n MOST_FRAMES then Ends (Window n) else Fails TooMany
turn side AckSequence text b n = Ends (Ack n)
turn side PairsSequence text b n = Goes (At (PairCount n) text [])
turn side JsonSequence text b n = Goes (At (PayloadLength n) text [])
turn side (PairCount seq) text b n = if nat_le n MOST_PAIRS then pairs_turn seq n text else Fails TooMany
turn side (PayloadLength seq) text b n = if nat_le n MOST_TEXT then payload_turn seq text n else Fails TooLong
turn side (Payload seq len) text b n = Ends (Json seq b)
turn side (KeyLength seq left) text b n = if nat_le (length text + 8 + n) MOST_TEXT then key_turn seq left (text ++ b) n else Fails TooLong
turn side (Key seq left len) text b n = Goes (At (ValueLength seq left) (text ++ b) [])
turn side (ValueLength seq left) text b n = if nat_le (length text + 4 + n) MOST_TEXT then value_turn seq left (text ++ b) n else Fails TooLong
turn side (Value seq left len) text b n = pairs_turn seq left (text ++ b)

-- what one byte does: it makes a field longer, or whole
unfoldable pub step : Side → State → ℕ → Turning
step side (At field text g) c =
    if nat_lt (length g + 1) (size_of field)
    then Goes (At field text (g ++ c ∷ []))
    else turn side field text (g ++ c ∷ []) (value_of field (g ++ c ∷ []))

-- what completes each state

-- four bytes, and then the rest
abbrev pub Four : (List ℕ → List ℕ → Type 0) → List ℕ → Type 0
Four P b = (number : List ℕ) × (rest : List ℕ) × (length number ≡ 4) × (b ≡ number ++ rest) × P number rest

-- so many more pairs after the text so far, and the frame
abbrev pub PairsEnd : ℕ → ℕ → List ℕ → LumberFrame → List ℕ → Type 0
PairsEnd seq left text f b = ArePairsOf left b × (length (text ++ b) ≤ MOST_TEXT) × (f ≡ Pairs seq (text ++ b))

-- after a pair count
abbrev pub AfterCount : ℕ → List ℕ → List ℕ → LumberFrame → List ℕ → Type 0
AfterCount seq text number f b = (from_be_bytes w32 number ≤ MOST_PAIRS) × PairsEnd seq (from_be_bytes w32 number) text f b

-- after a payload length
abbrev pub AfterLength : ℕ → List ℕ → LumberFrame → List ℕ → Type 0
AfterLength seq number f b = (from_be_bytes w32 number ≤ MOST_TEXT) × (length b ≡ from_be_bytes w32 number) × (f ≡ Json seq b)

-- after the sequence number of a D frame
abbrev pub AfterPairsSequence : List ℕ → List ℕ → LumberFrame → List ℕ → Type 0
AfterPairsSequence text number f b = Four (λ n rest. AfterCount (from_be_bytes w32 number) text n f rest) b

-- after that of a J frame
abbrev pub AfterJsonSequence : List ℕ → LumberFrame → List ℕ → Type 0
AfterJsonSequence number f b = Four (λ n rest. AfterLength (from_be_bytes w32 number) n f rest) b

-- after a window size
abbrev pub AfterSize : List ℕ → LumberFrame → List ℕ → Type 0
AfterSize number f b = (from_be_bytes w32 number ≤ MOST_FRAMES) × (b ≡ []) × (f ≡ Window (from_be_bytes w32 number))

-- after the sequence number of an A frame
abbrev pub AfterAck : List ℕ → LumberFrame → List ℕ → Type 0
AfterAck number f b = (b ≡ []) × (f ≡ Ack (from_be_bytes w32 number))

-- after a type byte
abbrev pub AfterType : Side → List ℕ → ℕ → LumberFrame → List ℕ → Type 0
AfterType Receiver text c f b =
    ((c ≡ 87) × Four (λ n rest. AfterSize n f rest) b)
    ⊎ (((c ≡ 68) × Four (λ n rest. AfterPairsSequence text n f rest) b) ⊎ ((c ≡ 74) × Four (λ n rest. AfterJsonSequence n f rest) b))
AfterType Sender text c f b = (c ≡ 65) × Four (λ n rest. AfterAck n f rest) b

-- what stands after a whole field
abbrev pub Behind : Side → Field → List ℕ → List ℕ → LumberFrame → List ℕ → Type 0
Behind side VersionByte text b f y = (b ≡ 50 ∷ []) × ((c : ℕ) × (rest : List ℕ) × (y ≡ c ∷ rest) × AfterType side text c f rest)
Behind side TypeByte text b f y = AfterType side text (slice_index b 0) f y
Behind side WindowSize text b f y = AfterSize b f y
Behind side AckSequence text b f y = AfterAck b f y
Behind side PairsSequence text b f y = AfterPairsSequence text b f y
Behind side JsonSequence text b f y = AfterJsonSequence b f y
Behind side (PairCount seq) text b f y = AfterCount seq text b f y
Behind side (PayloadLength seq) text b f y = AfterLength seq b f y
Behind side (Payload seq len) text b f y = (y ≡ []) × (f ≡ Json seq b)
Behind side (KeyLength seq left) text b f y =
    (key : List ℕ) × (value : List ℕ) × (more : List ℕ) × (length key ≡ from_be_bytes w32 b) × IsString value
    × (y ≡ key ++ (value ++ more)) × PairsEnd seq left (text ++ (b ++ (key ++ value))) f more
Behind side (Key seq left len) text b f y =
    (value : List ℕ) × (more : List ℕ) × IsString value × (y ≡ value ++ more) × PairsEnd seq left (text ++ (b ++ value)) f more
Behind side (ValueLength seq left) text b f y =
    (value : List ℕ) × (more : List ℕ) × (length value ≡ from_be_bytes w32 b) × (y ≡ value ++ more) × PairsEnd seq left (text ++ (b ++ value)) f more
Behind side (Value seq left len) text b f y = PairsEnd seq left (text ++ b) f y

-- the rest of the field, and what stands after it
abbrev pub Completes : Side → State → LumberFrame → List ℕ → Type 0
Completes side (At field text g) f b =
    (more : List ℕ) × (rest : List ℕ) × (0 < length more) × (length g + length more ≡ size_of field)
    × (b ≡ more ++ rest) × Behind side field text (g ++ more) f rest
