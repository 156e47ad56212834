-- Where the tokens of a file stand.
use Rattle.std.specs.Prelude.{◌≡◌, ◌⊎◌, ◌++◌, ℕ, List, [], ◌∷◌}
use Rattle.edge_net.specs.declared.token_places.TokenPlace.{TokenPlace}

-- a line of this number adds to the places that of its token, or nothing
abbrev pub AddsOf : ℕ → List TokenPlace → List TokenPlace → Type 0
AddsOf number before after = after ≡ before ⊎ ((guid : ℕ) × (after ≡ before ++ record { guid = guid; line = number } ∷ []))
