-- The lines of a head, counted byte by byte.
use Rattle.std.specs.Prelude.{ℕ, ◌+◌, Bool, true, false, ◌&&◌, ◌||◌, ◌==◌, not, nat_lt, List, [], ◌∷◌, if◌then◌else◌}
use Rattle.http_edge.specs.declared.lines.Lines.{Lines}
use Rattle.http_edge.specs.declared.lines.LastLine.{LastLine}
use Rattle.http_edge.specs.declared.lines.LastLine.TheVariants.{Empty, Return, Text}
use Rattle.http_edge.specs.declared.limits.TheConstants.{MOST_FIELDS}

abbrev pub is_empty : LastLine → Bool
is_empty Empty = true
is_empty Return = false
is_empty Text = false

abbrev pub is_text : LastLine → Bool
is_text Empty = false
is_text Return = false
is_text Text = true

-- the line that hasn't ended, after another byte of it
abbrev pub last_after : LastLine → ℕ → LastLine
last_after last c = if is_empty last && c == 13 then Return else Text

abbrev pub count_byte : Lines → ℕ → Lines
count_byte s c = if c == 10
    then record { started = s.started; ended = (if s.started then s.ended + 1 else s.ended); last = Empty }
    else record { started = s.started || not (c == 13); ended = s.ended; last = last_after s.last c }

abbrev pub count_lines : Lines → List ℕ → Lines
count_lines s [] = s
count_lines s (c ∷ b) = count_lines (count_byte s c) b

-- before a head
abbrev pub at_start : Lines
at_start = record { started = false; ended = 0; last = Empty }

-- after so many lines
abbrev pub at_line : ℕ → Lines
at_line n = record { started = true; ended = n; last = Empty }

-- a start line and 64 field lines have ended, and a further one has begun
abbrev pub is_over : Lines → Bool
is_over s = nat_lt (MOST_FIELDS + 1) s.ended || (nat_lt MOST_FIELDS s.ended && is_text s.last)
