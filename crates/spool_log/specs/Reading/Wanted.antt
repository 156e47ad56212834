-- Entries that a reading is to give.
use Rattle.std.specs.Prelude.{ℕ, nat_le, List}
use Rattle.std.specs.List.{filter}
use Rattle.known_numbers.specs.Numbers.{Numbers}
use Rattle.spool_state.specs.Left.{NumberedEntry, unknown}

-- those of them that aren't known, with numbers from this one on
abbrev pub wanted_from : Numbers → ℕ → List NumberedEntry → List NumberedEntry
wanted_from numbers from entries = filter (λ e. nat_le from e.number) (unknown numbers entries)
