-- The limits of an event.
use Rattle.std.specs.Prelude.{◌≡◌, ℕ, ◌≤◌, List, [], ◌∷◌, ◌++◌, length}
use Rattle.std.specs.Int.{to_be_bytes}
use mir.Syntax.{w32}
use Rattle.event_form.specs.declared.limits.TheConstants.{MOST_TEXT, MOST_PAIRS}
use Rattle.event_form.specs.declared.event.Event.{Event}
use Rattle.event_form.specs.declared.event.Origin.TheVariants.{LumberData}

-- a pair: the length of the key, the key, the length of the value and the value
abbrev pub pair_text : List ℕ × List ℕ → List ℕ
pair_text pair = to_be_bytes w32 (length pair.0) ++ pair.0 ++ to_be_bytes w32 (length pair.1) ++ pair.1

abbrev pub pairs_text : List (List ℕ × List ℕ) → List ℕ
pairs_text [] = []
pairs_text (pair ∷ pairs) = pair_text pair ++ pairs_text pairs

-- the bytes are whole pairs, and no more than a text may have
pub record ArePairs (bytes : List ℕ) : Type 0 where
  pub pairs : List (List ℕ × List ℕ)
  pub few : length pairs ≤ MOST_PAIRS
  pub whole : bytes ≡ pairs_text pairs

-- the limits of an event
pub record IsEvent (e : Event) : Type 0 where
  pub short : length e.text ≤ MOST_TEXT
  pub pairs : e.origin ≡ LumberData → ArePairs e.text
