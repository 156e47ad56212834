-- Ranges of a disk's bytes.
use Rattle.std.specs.Prelude.{ℕ, ◌≤◌, Bool, ◌&&◌, nat_le, nat_lt, List}
use Rattle.std.specs.List.{list_any}
use Rattle.edge_file.specs.declared.byte_range.ByteRange.{ByteRange}

-- the range has the byte at this offset
abbrev pub is_within : ByteRange → ℕ → Bool
is_within range i = nat_le range.from i && nat_lt i range.to

-- one of the ranges has it
abbrev pub is_covered : List ByteRange → ℕ → Bool
is_covered ranges i = list_any (λ range. is_within range i) ranges

-- they overlap, or one begins where the other ends
abbrev pub Touches : ByteRange → ByteRange → Type 0
Touches a b = (a.from ≤ b.to) × (b.from ≤ a.to)
