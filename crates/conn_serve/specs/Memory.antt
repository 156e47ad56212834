-- How much memory a connection takes.
use Rattle.std.specs.Prelude.{ℕ, ◌+◌, ◌*◌, nat_lt, if◌then◌else◌}

-- How many bytes it takes at most, where a read asks for that many and so many are held and served: the memory of a short read and the
-- beginning of a window, and for each byte as much as the smallest events need; but the whole where more is asked for or held than a short
-- read brings.
abbrev pub need_of : ℕ → ℕ → ℕ → ℕ
need_of whole asked held = if nat_lt 8192 asked then whole else if nat_lt 8192 held then whole else 16384 + 32 * held
