-- What may be written where any text may.
use Rattle.std.specs.Prelude.{ℕ, List, ◌++◌, Option, None, Some}
use Rattle.edge_io.specs.Told.{MayFollow}

-- then any piece may follow what was written
pub may_follow : (Permits : List ℕ → Type 0) (written : Option (List ℕ)) (piece : List ℕ) → ((text : List ℕ) → Permits text) → MayFollow Permits written piece
may_follow Permits None piece free = tt
may_follow Permits (Some before) piece free = free (before ++ piece)
