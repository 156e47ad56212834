-- The limits of a request's events.
use Rattle.std.specs.Prelude.{ℕ, ◌<◌, ◌≤◌, List, length}
use Rattle.std.specs.List.{All}

-- a text that an event may have
abbrev pub IsShort : List ℕ → Type 0
IsShort text = length text ≤ 131072

-- a longer one
abbrev pub IsLong : List ℕ → Type 0
IsLong text = 131072 < length text

-- the texts of a request's events: at least one, at most 10,000, and none is long
pub record AreWithinLimits (texts : List (List ℕ)) : Type 0 where
  pub some : 0 < length texts
  pub few : length texts ≤ 10000
  pub short : All IsShort texts
