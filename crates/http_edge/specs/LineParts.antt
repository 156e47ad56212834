-- How far the field lines of a head have been read (RFC 9112, section 5).
use Rattle.std.specs.Prelude.{◌≡◌, ℕ, ◌<◌, ◌≤◌, All, List, [], ◌∷◌, ◌++◌, length}
use Rattle.std.specs.List.{flat_map}
use Rattle.httparse.specs.Ascii.{carriage_return, colon}
use Rattle.httparse.specs.Grammar.{is_value_byte, AllPass, IsToken, Field, IsField, print_field}
use Rattle.http_edge.specs.declared.line_part.LinePart.{LinePart}
use Rattle.http_edge.specs.declared.line_part.LinePart.TheVariants.{Begin, Return, Name, Value, End}
use Rattle.http_edge.specs.declared.line_part.LinesPart.{LinesPart}
use Rattle.http_edge.specs.declared.limits.TheConstants.{MOST_FIELDS}

-- a name, a colon, and a value or the beginning of one
abbrev pub IsOpenField : List ℕ → Type 0
IsOpenField t = (name : List ℕ) × (raw : List ℕ) × IsToken name × AllPass is_value_byte raw × (t ≡ name ++ colon ∷ raw)

-- what has been read of the line after so many field lines
abbrev pub IsLinePart : LinePart → ℕ → List ℕ → Type 0
IsLinePart Begin n t = t ≡ []
IsLinePart Return n t = t ≡ carriage_return ∷ []
IsLinePart Name n t = (n < MOST_FIELDS) × IsToken t
IsLinePart Value n t = (n < MOST_FIELDS) × IsOpenField t
IsLinePart End n t = (n < MOST_FIELDS) × ((u : List ℕ) × IsOpenField u × (t ≡ u ++ carriage_return ∷ []))

-- in the line after so many field lines
abbrev pub at_field : ℕ → LinePart → LinesPart
at_field n part = record { count = n; line = part }

-- so many field lines, of at most 64, and this of a further line
pub record AreLines (now : LinesPart) (s : List ℕ) : Type 0 where
  pub fields : List Field
  pub last : List ℕ
  pub are : All IsField fields
  pub count_is : length fields ≡ now.count
  pub few : now.count ≤ MOST_FIELDS
  pub part : IsLinePart now.line now.count last
  pub text_is : s ≡ flat_map print_field fields ++ last
