-- What the fields of a head say.
use Rattle.std.specs.Prelude.{ℕ, Bool, ◌||◌, ◌&&◌, ◌==◌, List, [], ◌∷◌, Option, Some, None, codes, if◌then◌else◌}
use Rattle.std.specs.List.{list_any, slice_split}
use Rattle.std.specs.Str.{bytes_eq, str_eq_ignore_ascii_case}
use Rattle.httparse.specs.Grammar.{trim_ows}
use Rattle.http_edge.specs.declared.field.Field.{Field}
use Rattle.http_edge.specs.declared.request.HttpRequest.{HttpRequest}

-- the field has this name, ASCII case aside
abbrev pub is_named : List ℕ → Field → Bool
is_named name f = str_eq_ignore_ascii_case f.name name

-- the values of the fields of a name, in their order
abbrev pub values_of : List ℕ → List Field → List (List ℕ)
values_of name [] = []
values_of name (f ∷ fs) = if is_named name f then f.value ∷ values_of name fs else values_of name fs

-- the first of some values
abbrev pub first_of_values : List (List ℕ) → Option (List ℕ)
first_of_values [] = None
first_of_values (v ∷ vs) = Some v

-- the value of the first field of a name
abbrev pub field_value : List ℕ → List Field → Option (List ℕ)
field_value name fs = first_of_values (values_of name fs)

-- one of the parts of a value between commas is the word, white space around it and ASCII case aside
abbrev pub lists : List ℕ → List ℕ → Bool
lists word value = list_any (λ part. str_eq_ignore_ascii_case (trim_ows part) word) (slice_split (λ c. c == 44) value)

-- the field is a Connection that lists `close`
abbrev pub is_close : Field → Bool
is_close f = is_named (codes "connection") f && lists (codes "close") f.value

-- the connection ends with the answer to the request
abbrev pub closes : HttpRequest → Bool
closes r = r.minor == 0 || bytes_eq r.method (codes "HEAD") || list_any is_close r.fields
