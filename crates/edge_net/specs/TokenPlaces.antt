-- Where tokens stand.
use Rattle.std.specs.Prelude.{ℕ, List, [], ◌∷◌, ◌==◌, Option, None, Some, if◌then◌else◌}
use Rattle.edge_net.specs.declared.token_places.TokenPlace.{TokenPlace}

-- the line of the first of these places that has the token
abbrev pub line_of : ℕ → List TokenPlace → Option ℕ
line_of guid [] = None
line_of guid (place ∷ places) = if place.guid == guid then Some place.line else line_of guid places
