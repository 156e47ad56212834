-- The machine that the code is: where it stands in a JSON value after each byte, with a stack of open brackets. No public
-- contract names it; proofs show that it takes exactly the beginnings of JSON values.
use Rattle.std.specs.Prelude.{◌≤◌, ◌<◌, slice_index, ◌≡◌, ℕ, ◌+◌, zero, suc, ◌⊎◌, Bool, true, false, ◌==◌, ◌||◌, if◌then◌else◌, List, [], ◌∷◌, Option, Some, None}
use Rattle.json_span.specs.Numbers.{between, is_digit, AreDigits, AreSomeDigits, IsSign, IsExp, IsFrac, IsUnsigned}
use Rattle.json_span.specs.Strings.{Bounds, Any, within, Lead, lead, AreTail, is_plain, is_escape, is_hex, AreHex, CharKind, EndsString}
use Rattle.json_span.specs.Json.{is_space, Spaced, Byte, Then, IsMember, Json}

-- the open brackets
pub data Bracket : Type 0 where
  Array Object : Bracket

-- where in a string, number or literal
pub data Token : Type 0 where
  Closed : Token
  Word : ℕ → List ℕ → Token
  Minus Zero Int Dot Frac E Sign Exp : Token
  Chars Escape : Token
  Hex : ℕ → Token
  Tail : Bounds → ℕ → Token

-- the rest of a string
abbrev pub InString : List ℕ → Type 0
InString x = (ks : List CharKind) × EndsString ks x

-- what completes a token
abbrev pub Ends : Token → List ℕ → Type 0
Ends Closed x = x ≡ []
Ends (Word a y) x = x ≡ a ∷ y
Ends Minus x = IsUnsigned x
Ends Zero x = Then IsFrac IsExp x
Ends Int x = Then AreDigits (Then IsFrac IsExp) x
Ends Dot x = Then AreSomeDigits IsExp x
Ends Frac x = Then AreDigits IsExp x
Ends E x = Then IsSign AreSomeDigits x
Ends Sign x = AreSomeDigits x
Ends Exp x = AreDigits x
Ends Chars x = InString x
Ends Escape x = ((c : ℕ) × (is_escape c ≡ true) × Byte c InString x) ⊎ Byte 117 (Then (AreHex 4) InString) x
Ends (Hex n) x = Then (AreHex (suc n)) InString x
Ends (Tail bounds more) x = Then (AreTail bounds more) InString x

-- the token may end here
abbrev pub done : Token → Bool
done Closed = true
done Zero = true
done Int = true
done Frac = true
done Exp = true
done t = false

-- the letter of an exponent
abbrev pub is_e : ℕ → Bool
is_e c = (c == 101) || (c == 69)

-- after the first byte of a character of several bytes
abbrev pub wide_token : Option Lead → Option Token
wide_token None = None
wide_token (Some l) = Some (Tail l.bounds l.more)

-- the token after one byte more, if that byte belongs to it
unfoldable pub next : Token → ℕ → Option Token
next Closed c = None
next (Word a []) c = if c == a then Some Closed else None
next (Word a (b ∷ y)) c = if c == a then Some (Word b y) else None
next Minus c = if c == 48 then Some Zero else (if between 49 57 c then Some Int else None)
next Zero c = if c == 46 then Some Dot else (if is_e c then Some E else None)
next Int c = if is_digit c then Some Int else (if c == 46 then Some Dot else (if is_e c then Some E else None))
next Dot c = if is_digit c then Some Frac else None
next Frac c = if is_digit c then Some Frac else (if is_e c then Some E else None)
next E c = if is_digit c then Some Exp else (if (c == 43) || (c == 45) then Some Sign else None)
next Sign c = if is_digit c then Some Exp else None
next Exp c = if is_digit c then Some Exp else None
next Chars c =
    if c == 34 then Some Closed else
    (if c == 92 then Some Escape else
    (if is_plain c then Some Chars else wide_token (lead c)))
next Escape c = if c == 117 then Some (Hex 3) else (if is_escape c then Some Chars else None)
next (Hex zero) c = if is_hex c then Some Chars else None
next (Hex (suc n)) c = if is_hex c then Some (Hex n) else None
next (Tail bounds zero) c = if within bounds c then Some Chars else None
next (Tail bounds (suc n)) c = if within bounds c then Some (Tail Any n) else None

-- the first byte of a string, number or literal
unfoldable pub first : ℕ → Option Token
first c =
    if c == 34 then Some Chars else
    (if c == 45 then Some Minus else
    (if c == 48 then Some Zero else
    (if between 49 57 c then Some Int else
    (if c == 116 then Some (Word 114 ((117 ∷ (101 ∷ [])))) else
    (if c == 102 then Some (Word 97 ((108 ∷ (115 ∷ (101 ∷ []))))) else
    (if c == 110 then Some (Word 117 ((108 ∷ (108 ∷ [])))) else None))))))

-- the levels that may still be opened, and the open brackets, the innermost first
pub data State : Type 0 where
  Value First Names Name : ℕ → List Bracket → State
  InName In : Token → ℕ → List Bracket → State

-- n further items, the closing bracket, and what K says
abbrev pub ClosesThen : (List ℕ → Type 0) → ℕ → (List ℕ → Type 0) → ℕ → List ℕ → Type 0
ClosesThen Item close K zero x = Spaced (Byte close K) x
ClosesThen Item close K (suc n) x = Spaced (Byte 44 (Spaced (Then Item (ClosesThen Item close K n)))) x

abbrev pub ItemsThen : (List ℕ → Type 0) → ℕ → (List ℕ → Type 0) → List ℕ → Type 0
ItemsThen Item close K x = (n : ℕ) × ClosesThen Item close K n x

-- what stands after a value within open brackets
abbrev pub Rest : List Bracket → ℕ → List ℕ → Type 0
Rest [] d x = x ≡ []
Rest (Array ∷ st) d x = ItemsThen (Json d) 93 (Rest st (suc d)) x
Rest (Object ∷ st) d x = ItemsThen (IsMember (Json d)) 125 (Rest st (suc d)) x

-- what completes a state
abbrev pub Completes : State → List ℕ → Type 0
Completes (Value d st) x = Spaced (Then (Json d) (Rest st d)) x
Completes (First d st) x = Spaced (λ y. Byte 93 (Rest st (suc d)) y ⊎ Then (Json d) (Rest (Array ∷ st) d) y) x
Completes (Names d st) x = Spaced (λ y. Byte 125 (Rest st (suc d)) y ⊎ Then (IsMember (Json d)) (Rest (Object ∷ st) d) y) x
Completes (Name d st) x = Spaced (Then (IsMember (Json d)) (Rest (Object ∷ st) d)) x
Completes (InName t d st) x = Then (Ends t) (Spaced (Byte 58 (Spaced (Then (Json d) (Rest (Object ∷ st) d))))) x
Completes (In t d st) x = Then (Ends t) (Rest st d) x

-- a byte that may stand after a value or a name
pub data Follows : ℕ → Type 0 where
  Space : {c : ℕ} → is_space c ≡ true → Follows c
  Comma : {c : ℕ} → c ≡ 44 → Follows c
  EndArray : {c : ℕ} → c ≡ 93 → Follows c
  EndObject : {c : ℕ} → c ≡ 125 → Follows c
  Colon : {c : ℕ} → c ≡ 58 → Follows c

-- no value is possible, or one of too many levels
pub data Why : Type 0 where
  Bad Deep : Why

pub data Step : Type 0 where
  Goes : State → Step
  Fails : Why → Step

abbrev pub or_else : Option Token → (Token → State) → Step → Step
or_else (Some t) f s = Goes (f t)
or_else None f s = s

abbrev pub begin_array : ℕ → List Bracket → Step
begin_array zero st = Fails Deep
begin_array (suc d) st = Goes (First d st)

abbrev pub begin_object : ℕ → List Bracket → Step
begin_object zero st = Fails Deep
begin_object (suc d) st = Goes (Names d st)

-- the first byte of a value
unfoldable pub begin : ℕ → List Bracket → ℕ → Step
begin d st c = if c == 91 then begin_array d st else (if c == 123 then begin_object d st else or_else (first c) (λ t. In t d st) (Fails Bad))

-- after a value
unfoldable pub after_value : List Bracket → ℕ → ℕ → Step
after_value [] d c = Fails Bad
after_value (Array ∷ st) d c = if is_space c then Goes (In Closed d (Array ∷ st)) else (if c == 44 then Goes (Value d (Array ∷ st)) else (if c == 93 then Goes (In Closed (suc d) st) else Fails Bad))
after_value (Object ∷ st) d c = if is_space c then Goes (In Closed d (Object ∷ st)) else (if c == 44 then Goes (Name d st) else (if c == 125 then Goes (In Closed (suc d) st) else Fails Bad))

-- one byte more
unfoldable pub step : State → ℕ → Step
step (Value d st) c = if is_space c then Goes (Value d st) else begin d st c
step (First d st) c = if is_space c then Goes (First d st) else (if c == 93 then Goes (In Closed (suc d) st) else begin d (Array ∷ st) c)
step (Names d st) c = if is_space c then Goes (Names d st) else (if c == 125 then Goes (In Closed (suc d) st) else (if c == 34 then Goes (InName Chars d st) else Fails Bad))
step (Name d st) c = if is_space c then Goes (Name d st) else (if c == 34 then Goes (InName Chars d st) else Fails Bad)
step (InName t d st) c = or_else (next t c) (λ u. InName u d st) (if done t then (if is_space c then Goes (InName Closed d st) else (if c == 58 then Goes (Value d (Object ∷ st)) else Fails Bad)) else Fails Bad)
step (In t d st) c = or_else (next t c) (λ u. In u d st) (if done t then after_value st d c else Fails Bad)

-- the value may end here
abbrev pub accepts : State → Bool
accepts (In t d []) = done t
accepts s = false

-- what completes the state after a step
abbrev pub After : Step → List ℕ → Type 0
After (Goes s) b = Completes s b
After (Fails w) b = ⊥

pub data Run : Type 0 where
  Going : State → Run
  Stopped : Why → Run

abbrev pub onward : Step → (State → Run) → Run
onward (Goes t) k = k t
onward (Fails w) k = Stopped w

-- a list of bytes
abbrev pub run : State → List ℕ → Run
run s [] = Going s
run s (c ∷ b) = onward (step s c) (λ t. run t b)

-- within a string, number or literal
abbrev pub token_in : State → Option Token
token_in (InName t d st) = Some t
token_in (In t d st) = Some t
token_in s = None

-- in the tail of a character of several bytes
abbrev pub is_tail : Option Token → Bool
is_tail (Some (Tail bounds more)) = true
is_tail t = false

-- the last place of a byte of 192 or more, at most three before `fault`
abbrev pub IsLastLead : List ℕ → ℕ → ℕ → Type 0
IsLastLead bytes fault last = (k : ℕ) → k < fault → fault ≤ k + 3 → 192 ≤ slice_index bytes k → ((j : ℕ) → k < j → j < fault → slice_index bytes j < 192) → last ≡ k
