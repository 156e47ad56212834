-- How much of a disk was read, by parts of a MiB.
use Rattle.std.specs.Prelude.{ℕ, ◌+◌, ◌*◌, ◌&&◌, nat_lt, nat_le, Bool, List, count_by}

-- how many of the parts were read
abbrev pub count_read : List Bool → ℕ
count_read parts = count_by (λ is_read. is_read) parts

-- the last byte of this part is among those from one offset up to another
abbrev pub ends_within : ℕ → ℕ → ℕ → Bool
ends_within from to part = nat_lt from ((part + 1) * 1048576) && nat_le ((part + 1) * 1048576) to
