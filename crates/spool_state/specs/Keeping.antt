-- A spool that is kept.
use Rattle.std.specs.Prelude.{◌≡◌, ◌⊎◌, ℕ, List}
use Rattle.spool_state.specs.SpoolState.{SpoolState, IsKnownIn, Follows}
use Rattle.spool_state.specs.Image.{StandsFor}

-- The bytes stand for a spool, and the next ones for a later state of it, in which no number is known anew but those that may be
-- given up.
pub record KeepsSpool (Released : ℕ → Type 0) (now next : List ℕ) : Type 0 where
  pub state : SpoolState
  pub later : SpoolState
  pub stands : StandsFor state now
  pub stands_later : StandsFor later next
  pub slots : later.slots ≡ state.slots
  pub size : later.size ≡ state.size
  pub follows : Follows state later
  pub earned : (number : ℕ) → IsKnownIn later number → IsKnownIn state number ⊎ Released number
