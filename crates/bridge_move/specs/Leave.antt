-- The leave of a move.
use Rattle.std.specs.Prelude.{ℕ, List}
use Rattle.bridge_words.specs.Words.{IsMove}

-- so it is for the tag that the words have, where they move entries
abbrev pub ForMoves : List (List ℕ) → (ℕ → Type 0) → Type 0
ForMoves words Is = (target : List ℕ) (tag : ℕ) → IsMove target tag words → Is tag
