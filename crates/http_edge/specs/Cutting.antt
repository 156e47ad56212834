-- What a piece brings of a head that had begun.
use Rattle.std.specs.Prelude.{◌≡◌, ℕ, ◌<◌, ◌≤◌, List, [], ◌++◌, length, take}
use Rattle.http_edge.specs.declared.cut.Cut.{Cut}
use Rattle.http_edge.specs.declared.cut.Cut.TheVariants.{Open, Bad, Whole}
use Rattle.http_edge.specs.declared.limits.TheConstants.{MOST_HEAD}
use Rattle.http_edge.specs.HttpStream.{IsFault}
use Rattle.http_edge.specs.Parts.{IsPart}

-- bytes of the piece after the old ones are the beginning of a head, or at fault, or may be a head
abbrev pub GoesOn : List ℕ → List ℕ → List ℕ → Cut → Type 0
GoesOn old piece new (Open part) = (new ≡ old ++ piece) × (length new < MOST_HEAD) × IsPart part new
GoesOn old piece new (Bad why) = ((n : ℕ) × (n ≤ length piece) × (new ≡ old ++ take n piece)) × IsFault new why 0 []
GoesOn old piece new (Whole used) = (used ≤ length piece) × (new ≡ old ++ take used piece)
