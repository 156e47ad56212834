-- How a window of bytes is seen.
use Rattle.std.specs.Prelude.{ℕ, List, Option, drop, slice_range}
use Rattle.stream_grammar.specs.Reading.{Window}

-- Of its bytes those from one place up to another are the whole frames that wait; the bytes after them are
-- at this offset of the stream.
abbrev pub window_of : {E : Type 0} → List ℕ → ℕ → ℕ → ℕ → Option E → Window E
window_of bytes from whole at fault = record { whole = slice_range bytes from whole; at = at; rest = drop whole bytes; fault = fault }
