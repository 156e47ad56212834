-- What has been read of a piece after a body.
use Rattle.std.specs.Prelude.{◌≡◌, ℕ, ◌+◌, ◌≤◌, ◌<◌, List, ◌++◌, length, take, drop}
use Rattle.http_edge.specs.declared.fault.HttpWhy.TheVariants.{BadHead, BadLength, TooLong, BadChunk}
use Rattle.http_edge.specs.declared.gather.Ending.{Ending}
use Rattle.http_edge.specs.declared.gather.Ending.TheVariants.{Whole, Open, Bad}
use Rattle.http_edge.specs.declared.gather.Gathered.{Gathered}
use Rattle.http_edge.specs.declared.gather.Passed.{Passed}
use Rattle.http_edge.specs.declared.stage.Stage.{Stage}
use Rattle.http_edge.specs.declared.limits.TheConstants.{MOST_HEAD}
use Rattle.http_edge.specs.Lengths.{BodySize, Chunked}
use Rattle.http_edge.specs.Bodies.{Reaches, IsBody, IsTooLong, IsBadChunk, Awaits}
use Rattle.http_edge.specs.Steps.{Fits}

-- wherever a body of so many bytes is at the stage, this holds of how it is framed, the body and its text
abbrev pub Wherever : Stage → ℕ → (BodySize → List ℕ → List ℕ → Type 0) → Type 0
Wherever stage held P = (size : BodySize) (body front : List ℕ) → length body ≡ held → Reaches size stage body front → P size body front

-- the first so many bytes of the piece bring the body to another stage, with these data
pub record Brings (stage : Stage) (held : ℕ) (piece : List ℕ) (now : Stage) (data_read : List ℕ) (from : ℕ) : Type 0 where
  pub inside : from ≤ length piece
  pub fits : Fits now (held + length data_read)
  pub reaches : Wherever stage held (λ size body front. Reaches size now (body ++ data_read) (front ++ take from piece))

-- what the piece brings the body to
abbrev pub GathersTo : Stage → ℕ → List ℕ → List ℕ → ℕ → Ending → Type 0
GathersTo stage held piece data_read used Whole =
    (used ≤ length piece) × Wherever stage held (λ size body front. IsBody size (body ++ data_read) (front ++ take used piece))
GathersTo stage held piece data_read used (Open now) =
    Brings stage held piece now data_read used × Awaits now (drop used piece) × (length (drop used piece) < MOST_HEAD)
GathersTo stage held piece data_read used (Bad BadHead) = ⊥
GathersTo stage held piece data_read used (Bad BadLength) = ⊥
GathersTo stage held piece data_read used (Bad TooLong) =
    (used ≤ length piece) × Wherever stage held (λ size body front. IsTooLong size (front ++ piece))
GathersTo stage held piece data_read used (Bad BadChunk) =
    (used ≤ length piece) × Wherever stage held (λ size body front. (size ≡ Chunked) × IsBadChunk (front ++ piece) (length front + used))

-- so a piece is read, and the bytes of the body are appended
pub record Gathers (stage : Stage) (held : ℕ) (piece old new : List ℕ) (g : Gathered) : Type 0 where
  pub got : List ℕ
  pub added : new ≡ old ++ got
  pub few : length got ≤ g.used
  pub gathers : GathersTo stage held piece got g.used g.end

-- so it is read, and the bytes of the body are counted
pub record GathersPast (stage : Stage) (held : ℕ) (piece : List ℕ) (p : Passed) : Type 0 where
  pub got : List ℕ
  pub held_is : p.held ≡ held + length got
  pub gathers : GathersTo stage held piece got p.used p.end
