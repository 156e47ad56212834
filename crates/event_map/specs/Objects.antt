-- JSON objects with no white space: RFC 8259, section 4.
use Rattle.std.specs.Prelude.{List, ℕ, ◌++◌, codes, map}
use Rattle.std.specs.List.{join_with_byte}
use Rattle.event_map.specs.Strings.{string_of}

-- {"message":"text"}
abbrev pub message_object : List ℕ → List ℕ
message_object text = codes "{\"message\":" ++ (string_of text ++ codes "}")

-- {"event":value}
abbrev pub event_object : List ℕ → List ℕ
event_object value = codes "{\"event\":" ++ (value ++ codes "}")

-- "key":"value"
abbrev pub member_of : List ℕ × List ℕ → List ℕ
member_of pair = string_of pair.0 ++ (codes ":" ++ string_of pair.1)

-- {"key":"value","key":"value"}: the pairs in their order with commas (44) between, each of those with one key too
abbrev pub pairs_object : List (List ℕ × List ℕ) → List ℕ
pairs_object pairs = codes "{" ++ (join_with_byte 44 (map member_of pairs) ++ codes "}")
