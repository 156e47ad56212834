use Rattle.std.proofs.Common.{◌≡◌, ℕ, List, ◌<◌, ◌≤◌, get_or, Bor}
use Rattle.std.specs.Prelude.{MatchOption}
use Rattle.cli_parts.specs.Near.{edits}
use Rattle.cli_parts.proofs.misspelt.nearest.Given as goal

-- of the names up to here none is nearer than the one that was found
abbrev pub invariant-loop-name : goal.invariant-loop-name
invariant-loop-name l =
    MatchOption l.found (l.least ≡ 3)
    (λ name. (place : ℕ) × (place < l.name-index) × (get_or l.names place name ≡ name) × (edits l.word name.now ≡ l.least) × (l.least ≤ 2))
    × ((place : ℕ) (d : Bor (List ℕ)) → place < l.name-index → l.least ≤ edits l.word (get_or l.names place d).now)
