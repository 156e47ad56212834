-- How a head says that its body is framed (RFC 9112, section 6).
use Rattle.std.specs.Prelude.{ℕ, Bool, true, false, ◌&&◌, ◌==◌, not, nat_lt, nat_le, List, [], ◌∷◌, length, Option, Some, None, codes, if◌then◌else◌}
use Rattle.std.specs.List.{list_all}
use Rattle.std.specs.Char.{is_ascii_digit}
use Rattle.std.specs.Str.{str_eq_ignore_ascii_case}
use Rattle.std.specs.Str.Parse.{digits_value}
use Rattle.httparse.specs.Grammar.{RequestHead}
use Rattle.http_edge.specs.declared.field.Field.{Field}
use Rattle.http_edge.specs.declared.limits.TheConstants.{MOST_BODY}
use Rattle.http_edge.specs.Fields.{values_of, field_value}
use Rattle.http_edge.specs.Heads.{head_fields}

-- by its length, in chunks, or against the rules
pub data BodySize : Type 0 where
  Sized : ℕ → BodySize
  Chunked : BodySize
  BadSize : BodySize

-- one or more digits alone
abbrev pub is_number : List ℕ → Bool
is_number v = not (length v == 0) && list_all is_ascii_digit v

-- by the minor version, and the values of the fields Content-Length and Transfer-Encoding
abbrev pub size_by : ℕ → List (List ℕ) → List (List ℕ) → BodySize
size_by minor [] [] = Sized 0
size_by minor (v ∷ []) [] = if is_number v then Sized (digits_value 10 v) else BadSize
size_by minor [] (v ∷ []) = if minor == 1 && str_eq_ignore_ascii_case v (codes "chunked") then Chunked else BadSize
size_by minor (v ∷ w ∷ vs) ws = BadSize
size_by minor vs (v ∷ w ∷ ws) = BadSize
size_by minor (v ∷ vs) (w ∷ ws) = BadSize

abbrev pub body_size : ℕ → List Field → BodySize
body_size minor fields = size_by minor (values_of (codes "content-length") fields) (values_of (codes "transfer-encoding") fields)

-- how a head says that its body is framed
abbrev pub size_of : RequestHead → BodySize
size_of h = body_size h.minor (head_fields h)

-- the body is of more than 0 bytes, and may come
abbrev pub has_body : BodySize → Bool
has_body (Sized n) = nat_lt 0 n && nat_le n MOST_BODY
has_body Chunked = true
has_body BadSize = false

-- the value of the first field Expect waits for leave (RFC 9110, section 10.1.1)
abbrev pub is_continue : Option (List ℕ) → Bool
is_continue None = false
is_continue (Some v) = str_eq_ignore_ascii_case v (codes "100-continue")

-- the item Continue is told of a head with these fields
abbrev pub asks : ℕ → List Field → Bool
asks minor fields = minor == 1 && is_continue (field_value (codes "expect") fields) && has_body (body_size minor fields)
