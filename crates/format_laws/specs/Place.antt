-- The place of the first rule that the bytes of a device break.
use Rattle.std.specs.Prelude.{◌≡◌, ℕ, List}
use Rattle.spool_state.specs.Rules.{Breaks}

-- The bytes break their first rule at one place.
abbrev pub PlaceIsOne : Type 0
PlaceIsOne = (at place : ℕ) (c : List ℕ) → Breaks at c → Breaks place c → at ≡ place
