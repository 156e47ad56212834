-- What is durable in a store in memory.
use Rattle.std.specs.Prelude.{ℕ, List, [], ◌∷◌}

-- the copy that was made at the first write since the last sync, else what is read
abbrev pub durable_bytes : List (ℕ × ℕ) → List ℕ → List ℕ → List ℕ
durable_bytes [] copy bytes = bytes
durable_bytes (range ∷ ranges) copy bytes = copy
