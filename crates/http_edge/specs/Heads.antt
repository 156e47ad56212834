-- The head of a request: a head of RFC 9112, sections 2 to 5, of at most 64 fields.
use Rattle.std.specs.Prelude.{◌≤◌, ◌⊎◌, ℕ, List, [], ◌++◌, length, map}
use Rattle.httparse.specs.Grammar.{RequestHead, ReadsRequest, EndsInTarget}
use Rattle.httparse.specs.Spans.{name_and_value}
use Rattle.http_edge.specs.declared.field.Field.{Field}
use Rattle.http_edge.specs.declared.limits.TheConstants.{MOST_FIELDS}

-- b is such a head, and then rest
pub record HoldsHead (b : List ℕ) (h : RequestHead) (rest : List ℕ) : Type 0 where
  pub reads : ReadsRequest b h rest
  pub few : length h.fields ≤ MOST_FIELDS

-- no such head is at the front
abbrev pub HasNoHead : List ℕ → Type 0
HasNoHead b = (h : RequestHead) (rest : List ℕ) → HoldsHead b h rest → ⊥

-- no bytes can follow that put such a head at the front
abbrev pub NeverHasHead : List ℕ → Type 0
NeverHasHead b = (more : List ℕ) → HasNoHead (b ++ more)

-- some bytes after these make them such a head
pub record BeginsAHead (b : List ℕ) : Type 0 where
  pub more : List ℕ
  pub head : RequestHead
  pub holds : HoldsHead (b ++ more) head []

-- The bytes are no head yet, and begin one. A target may be any text in UTF-8, which is told only at its
-- end: bytes that end inside a target may wait for that.
pub record IsOpenHead (b : List ℕ) : Type 0 where
  pub none : HasNoHead b
  pub going : BeginsAHead b ⊎ EndsInTarget b

-- a name and a value as a field
abbrev pub field_of : List ℕ × List ℕ → Field
field_of p = record { name = p.0; value = p.1 }

-- the fields of a head, each value without the white space around it
abbrev pub head_fields : RequestHead → List Field
head_fields h = map field_of (map name_and_value h.fields)
