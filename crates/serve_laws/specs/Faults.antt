-- The links that ended since the disk failed, by the disk's own count of faults.
use Rattle.std.specs.Prelude.{ℕ, Bool, true, false, List}
use Rattle.std.specs.List.{All, sum_by}
use Rattle.foundation.specs.Faults.{Rose}
use Rattle.serve_workers.specs.Served.{by_disk, how_many}
use Rattle.serve_laws.specs.Parts.{Part, links_of}

-- how many links of the part ended since the disk failed
abbrev pub ended_by_disk : Part → ℕ
ended_by_disk part = how_many by_disk (links_of part)

-- The count rose by at least as many as links ended so in all parts. Where takes of several callers may be stored as one group, one
-- failure can end a link of each of them: then the count rose by at least as many as links ended so in any one part.
abbrev pub CountsEnded : Bool → List Part → ℕ → ℕ → Type 0
CountsEnded false parts before now = Rose (sum_by ended_by_disk parts) before now
CountsEnded true parts before now = All (λ part. Rose (ended_by_disk part) before now) parts
