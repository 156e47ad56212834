-- The target of a request (RFC 9112, section 3.2.1): a path, and after the first `?` (63) a query.
use Rattle.std.specs.Prelude.{ℕ, ◌+◌, ◌==◌, List, [], ◌∷◌, Option, Some, None, take, drop, position, if◌then◌else◌}
use Rattle.std.specs.Str.{bytes_eq}
use Rattle.std.specs.Str.Lossy.{utf8_lossy}
use Rattle.form_urlencoded.specs.Form.{decode, raw_pairs}

-- where the first `?` stands
abbrev pub mark_of : List ℕ → Option ℕ
mark_of target = position (λ byte. byte == 63) target

abbrev pub path_before : List ℕ → Option ℕ → List ℕ
path_before target None = target
path_before target (Some mark) = take mark target

abbrev pub query_behind : List ℕ → Option ℕ → List ℕ
query_behind target None = []
query_behind target (Some mark) = drop (mark + 1) target

-- the path
abbrev pub path_of : List ℕ → List ℕ
path_of target = path_before target (mark_of target)

-- the query
abbrev pub query_of : List ℕ → List ℕ
query_of target = query_behind target (mark_of target)

-- what a name or a value of a form stands for (URL Standard, section 5.1)
abbrev pub decoded : List ℕ → List ℕ
decoded bytes = utf8_lossy (decode bytes)

-- the value of the first pair with this name
abbrev pub first_named : List ℕ → List (List ℕ × List ℕ) → Option (List ℕ)
first_named name [] = None
first_named name (pair ∷ pairs) = if bytes_eq (decoded pair.0) name then Some (decoded pair.1) else first_named name pairs

-- the value of the query's first parameter with this name
abbrev pub parameter : List ℕ → List ℕ → Option (List ℕ)
parameter name target = first_named name (raw_pairs (query_of target))
