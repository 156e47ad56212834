-- Which fields break a rule, by what stands before them in their frame.
use Rattle.std.specs.Prelude.{◌≡◌, ◌≢◌, ℕ, ◌+◌, ◌<◌, ◌≤◌, ◌⊎◌, List, [], ◌∷◌, ◌++◌, length}
use Rattle.event_form.specs.declared.limits.TheConstants.{MOST_TEXT, MOST_PAIRS}
use Rattle.lumber_frame.specs.declared.limits.TheConstants.{MOST_FRAMES}
use Rattle.lumber_frame.specs.declared.fault.LumberWhy.{LumberWhy}
use Rattle.lumber_frame.specs.declared.fault.LumberWhy.TheVariants.{Version, Kind, Compressed, AckFromWriter, TooLong, TooMany}
use Rattle.lumber_frame.specs.declared.side.Side.{Side}
use Rattle.lumber_frame.specs.declared.side.Side.TheVariants.{Receiver, Sender}
use Rattle.lumber_frame.specs.Spelling.{IsNumber, IsString, ArePairsOf}

-- a byte for which no frame comes on this side, and that has no fault of its own
abbrev pub IsNoType : Side → ℕ → Type 0
IsNoType Receiver c = (c ≢ 87) × (c ≢ 68) × (c ≢ 74) × (c ≢ 65) × (c ≢ 67)
IsNoType Sender c = (c ≢ 65) × (c ≢ 67)

-- the version, the type, and a sequence number
pub record IsHead (kind : ℕ) (h : List ℕ) : Type 0 where
  pub sequence : List ℕ
  pub four : length sequence ≡ 4
  pub whole : h ≡ 50 ∷ kind ∷ sequence

-- a D frame's head, a pair count, and these bytes of fewer pairs
pub record BeforePair (pairs h : List ℕ) : Type 0 where
  pub head : List ℕ
  pub number : List ℕ
  pub count : ℕ
  pub done : ℕ
  pub head_is : IsHead 68 head
  pub number_is : IsNumber count number
  pub few : count ≤ MOST_PAIRS
  pub pairs_are : ArePairsOf done pairs
  pub left : done < count
  pub short : length pairs ≤ MOST_TEXT
  pub whole : h ≡ head ++ (number ++ pairs)

-- the same, and the key of the next pair
pub record BeforeValue (pairs key h : List ℕ) : Type 0 where
  pub front : List ℕ
  pub before : BeforePair pairs front
  pub key_is : IsString key
  pub short : length pairs + length key + 4 ≤ MOST_TEXT
  pub whole : h ≡ front ++ key

-- the number n is too large where it stands after the bytes h of its frame:

-- a window size above 65,536
abbrev pub IsLargeWindow : List ℕ → ℕ → Type 0
IsLargeWindow h n = (h ≡ 50 ∷ 87 ∷ []) × (MOST_FRAMES < n)

-- a pair count above 1,024
abbrev pub IsLargeCount : List ℕ → ℕ → Type 0
IsLargeCount h n = IsHead 68 h × (MOST_PAIRS < n)

-- a payload length above 131,072
abbrev pub IsLongPayload : List ℕ → ℕ → Type 0
IsLongPayload h n = IsHead 74 h × (MOST_TEXT < n)

-- a key length by which the pair bytes before it, eight more and the key are above 131,072
abbrev pub IsLongKey : List ℕ → ℕ → Type 0
IsLongKey h n = (pairs : List ℕ) × BeforePair pairs h × (MOST_TEXT < length pairs + 8 + n)

-- a value length by which the sum so far and the value are
abbrev pub IsLongValue : List ℕ → ℕ → Type 0
IsLongValue h n = (pairs : List ℕ) × (key : List ℕ) × BeforeValue pairs key h × (MOST_TEXT < length pairs + length key + 4 + n)

-- The field after the bytes h of its frame breaks this rule.
abbrev pub Broken : Side → List ℕ → List ℕ → LumberWhy → Type 0
-- the version isn't `2`
Broken side h field Version = (h ≡ []) × ((c : ℕ) × (field ≡ c ∷ []) × (c ≢ 50))
-- the type is C
Broken side h field Compressed = (h ≡ 50 ∷ []) × (field ≡ 67 ∷ [])
-- the type is A, from a writer
Broken side h field AckFromWriter = (side ≡ Receiver) × (h ≡ 50 ∷ []) × (field ≡ 65 ∷ [])
-- the type is another one that doesn't come
Broken side h field Kind = (h ≡ 50 ∷ []) × ((c : ℕ) × (field ≡ c ∷ []) × IsNoType side c)
-- a window size, or a pair count
Broken side h field TooMany = (side ≡ Receiver) × ((n : ℕ) × IsNumber n field × (IsLargeWindow h n ⊎ IsLargeCount h n))
-- a payload length, a key length, or a value length
Broken side h field TooLong = (side ≡ Receiver) × ((n : ℕ) × IsNumber n field × (IsLongPayload h n ⊎ (IsLongKey h n ⊎ IsLongValue h n)))
