-- What the code's readings stand for in the machine. No public contract names this.
use Rattle.std.specs.Prelude.{◌≡◌, ℕ, ◌+◌, ◌^◌, ◌<◌, ◌≤◌, ◌%◌, ◌/◌, ◌==◌, if◌then◌else◌, ⊤, zero, suc, List, [], ◌∷◌, Option, Some, None}
use Rattle.json_span.specs.Machine as m
use Rattle.json_span.specs.Machine.{Bracket, State, Step, Goes, Fails}
use Rattle.json_span.specs.Strings as s
use Rattle.json_span.specs.Strings.{Bounds}
use Rattle.json_span.specs.declared.token.Range.{Range}
use Rattle.json_span.specs.declared.token.Range.TheVariants as r
use Rattle.json_span.specs.declared.token.Token.{Token}
use Rattle.json_span.specs.declared.token.Token.TheVariants as p
use Rattle.json_span.specs.declared.reading.Place.{Place}
use Rattle.json_span.specs.declared.reading.Place.TheVariants as q
use Rattle.json_span.specs.declared.reading.Reading.{Reading}
use Rattle.json_span.specs.declared.reading.Turn.{Turn}
use Rattle.json_span.specs.declared.reading.Turn.TheVariants as t

abbrev pub bounds_of : Range → Bounds
bounds_of r.Any = s.Any
bounds_of r.FromA0 = s.FromA0
bounds_of r.To9F = s.To9F
bounds_of r.From90 = s.From90
bounds_of r.To8F = s.To8F

abbrev pub token_of : Token → m.Token
token_of p.Closed = m.Closed
token_of p.AfterT = m.Word 114 ((117 ∷ (101 ∷ [])))
token_of p.AfterTr = m.Word 117 ((101 ∷ []))
token_of p.AfterTru = m.Word 101 []
token_of p.AfterF = m.Word 97 ((108 ∷ (115 ∷ (101 ∷ []))))
token_of p.AfterFa = m.Word 108 ((115 ∷ (101 ∷ [])))
token_of p.AfterFal = m.Word 115 ((101 ∷ []))
token_of p.AfterFals = m.Word 101 []
token_of p.AfterN = m.Word 117 ((108 ∷ (108 ∷ [])))
token_of p.AfterNu = m.Word 108 ((108 ∷ []))
token_of p.AfterNul = m.Word 108 []
token_of p.Minus = m.Minus
token_of p.Zero = m.Zero
token_of p.Int = m.Int
token_of p.Point = m.Dot
token_of p.Frac = m.Frac
token_of p.E = m.E
token_of p.Sign = m.Sign
token_of p.Exp = m.Exp
token_of p.Chars = m.Chars
token_of p.Escape = m.Escape
token_of (p.Hex left) = m.Hex left
token_of (p.Tail bounds more) = m.Tail (bounds_of bounds) more

abbrev pub token_option : Option Token → Option m.Token
token_option None = None
token_option (Some x) = Some (token_of x)

-- the innermost bracket is the lowest bit
abbrev pub brackets : ℕ → ℕ → List Bracket
brackets zero bits = []
brackets (suc n) bits = (if bits % 2 == 0 then m.Array else m.Object) ∷ brackets n (bits / 2)

abbrev pub state_at : Place → ℕ → List Bracket → State
state_at q.Value d st = m.Value d st
state_at q.First d (b ∷ st) = m.First d st
state_at q.Names d (b ∷ st) = m.Names d st
state_at q.Name d (b ∷ st) = m.Name d st
state_at (q.InName x) d (b ∷ st) = m.InName (token_of x) d st
state_at (q.In x) d st = m.In (token_of x) d st
state_at other d st = m.Value d st

abbrev pub state_of : Reading → State
state_of r = state_at r.place r.left (brackets r.depth r.bits)

abbrev pub step_of : Turn → Step
step_of (t.Go r) = Goes (state_of r)
step_of t.Bad = Fails m.Bad
step_of t.Deep = Fails m.Deep

-- at most 127 levels in all, and a bit for each open bracket
pub record Fits (r : Reading) : Type 0 where
  pub levels : r.depth + r.left ≤ 127
  pub bits : r.bits < 2 ^ r.depth

abbrev pub FitsTurn : Turn → Type 0
FitsTurn (t.Go r) = Fits r
FitsTurn t.Bad = ⊤
FitsTurn t.Deep = ⊤

-- the innermost bracket is the one that the place stands in
abbrev pub HasTop : Place → List Bracket → Type 0
HasTop q.Value st = ⊤
HasTop q.First st = (x : List Bracket) × (st ≡ m.Array ∷ x)
HasTop q.Names st = (x : List Bracket) × (st ≡ m.Object ∷ x)
HasTop q.Name st = (x : List Bracket) × (st ≡ m.Object ∷ x)
HasTop (q.InName y) st = (x : List Bracket) × (st ≡ m.Object ∷ x)
HasTop (q.In y) st = ⊤

abbrev pub TopTurn : Turn → Type 0
TopTurn (t.Go r) = HasTop r.place (brackets r.depth r.bits)
TopTurn t.Bad = ⊤
TopTurn t.Deep = ⊤
