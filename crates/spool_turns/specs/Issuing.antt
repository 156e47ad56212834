-- The ids that a journal issues.
use Rattle.std.specs.Prelude.{◌≡◌, ℕ, ◌+◌, List, [], ◌∷◌, Ok}
use Rattle.desk_access.specs.Call.{Call, issues}
use Rattle.desk_access.specs.Legal.{IsOfRun}

-- the ids that the calls issued, in order
abbrev pub ids_of : List Call → List ℕ
ids_of [] = []
ids_of (issues channel (Ok id) ∷ calls) = id ∷ ids_of calls
ids_of (_ ∷ calls) = ids_of calls

-- these ids are that number, the next one, and so on
abbrev pub AreFrom : ℕ → List ℕ → Type 0
AreFrom next [] = Unit {0}
AreFrom next (id ∷ ids) = (id ≡ next) × AreFrom (next + 1) ids

-- No id is of two runs.
abbrev pub IdsOfRunsDiffer : Type 0
IdsOfRunsDiffer = (run other id : ℕ) → IsOfRun run id → IsOfRun other id → run ≡ other
