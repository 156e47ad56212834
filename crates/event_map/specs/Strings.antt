-- Texts as JSON strings: RFC 8259, section 7.
use Rattle.std.specs.Prelude.{List, ℕ, [], ◌∷◌, codes}
use Rattle.std.specs.Str.Lossy.{utf8_lossy}
use Rattle.serde_json.specs.Data.{string}
use Rattle.serde_json.specs.Written.{compact_text}

-- what serde_json writes of the text as a string; what isn't UTF-8 in it is read as U+FFFD
abbrev pub string_of : List ℕ → List ℕ
string_of text = compact_text (string (utf8_lossy text))

-- the same where an empty string may not stand: "-" for the empty text
abbrev pub event_string : List ℕ → List ℕ
event_string [] = codes "\"-\""
event_string (byte ∷ text) = string_of (byte ∷ text)
