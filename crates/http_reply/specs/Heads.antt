-- The head of a reply: a head of RFC 9112, sections 2, 4 and 5, of at most 64 fields.
use Rattle.std.specs.Prelude.{◌≤◌, ℕ, List, [], ◌++◌, length, map}
use Rattle.httparse.specs.Grammar.{ResponseHead, ReadsResponse, print_response}
use Rattle.httparse.specs.Spans.{name_and_value}
use Rattle.http_edge.specs.declared.field.Field.{Field}
use Rattle.http_edge.specs.declared.limits.TheConstants.{MOST_FIELDS, MOST_HEAD}
use Rattle.http_edge.specs.Heads.{field_of}

-- b is such a head, and then rest
pub record HoldsHead (b : List ℕ) (h : ResponseHead) (rest : List ℕ) : Type 0 where
  pub reads : ReadsResponse b h rest
  pub few : length h.fields ≤ MOST_FIELDS

-- no such head is at the front
abbrev pub HasNoHead : List ℕ → Type 0
HasNoHead b = (h : ResponseHead) (rest : List ℕ) → HoldsHead b h rest → ⊥

-- no bytes can follow that put such a head at the front
abbrev pub NeverHasHead : List ℕ → Type 0
NeverHasHead b = (more : List ℕ) → HasNoHead (b ++ more)

-- some bytes after these make them such a head
pub record BeginsAHead (b : List ℕ) : Type 0 where
  pub more : List ℕ
  pub head : ResponseHead
  pub holds : HoldsHead (b ++ more) head []

-- the bytes are no head yet, and begin one
pub record IsOpenHead (b : List ℕ) : Type 0 where
  pub none : HasNoHead b
  pub going : BeginsAHead b

-- b is a head that ends in its first 16,384 bytes, and text
pub record BeginsWith (b : List ℕ) (h : ResponseHead) (text : List ℕ) : Type 0 where
  pub holds : HoldsHead b h text
  pub short : length (print_response h) ≤ MOST_HEAD

-- the fields of a head, each value without the white space around it
abbrev pub head_fields : ResponseHead → List Field
head_fields h = map field_of (map name_and_value h.fields)
