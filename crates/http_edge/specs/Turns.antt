-- What the steps of a window say of the bytes of a body.
use Rattle.std.specs.Prelude.{◌≡◌, ℕ, ◌+◌, ◌≤◌, ◌<◌, List, [], ◌++◌, length, take}
use Rattle.http_edge.specs.declared.chunk.LineTurn.{LineTurn}
use Rattle.http_edge.specs.declared.chunk.LineTurn.TheVariants as line
use Rattle.http_edge.specs.declared.chunk.TrailerTurn.{TrailerTurn}
use Rattle.http_edge.specs.declared.chunk.TrailerTurn.TheVariants as trailer
use Rattle.http_edge.specs.declared.fault.HttpWhy.TheVariants.{BadHead, BadLength, TooLong, BadChunk}
use Rattle.http_edge.specs.declared.stage.Stage.{Stage}
use Rattle.http_edge.specs.declared.stage.Stage.TheVariants.{Line, Trailer}
use Rattle.http_edge.specs.declared.step.Turn.{Turn}
use Rattle.http_edge.specs.declared.step.Turn.TheVariants.{Took, Past, Done, Open, Bad}
use Rattle.http_edge.specs.declared.limits.TheConstants.{MOST_HEAD}
use Rattle.http_edge.specs.Lengths.{BodySize}
use Rattle.http_edge.specs.Chunks.{IsLine, HoldsTrailer, HasNoTrailer, NeverHasTrailer, MayBecomeTrailer}
use Rattle.http_edge.specs.Bodies.{Reaches, IsBody, IsTooLong, Awaits, Breaks}
use Rattle.http_edge.specs.Steps.{Fits}

-- what bytes are where a chunk line is due
abbrev pub JudgesLine : List ℕ → LineTurn → Type 0
JudgesLine u (line.Whole used size) = IsLine size (take used u) × (used ≤ length u) × (0 < used)
JudgesLine u line.Open = Awaits Line u
JudgesLine u line.Bad = Breaks Line u

-- what bytes are where a trailer is due: few of them, and any
abbrev pub JudgesTrailerFront : List ℕ → TrailerTurn → Type 0
JudgesTrailerFront t (trailer.Whole used) = HoldsTrailer (take used t) [] × (used ≤ length t)
JudgesTrailerFront t trailer.Open = HasNoTrailer t × MayBecomeTrailer t
JudgesTrailerFront t trailer.Bad = NeverHasTrailer t

abbrev pub JudgesTrailer : List ℕ → TrailerTurn → Type 0
JudgesTrailer u (trailer.Whole used) = HoldsTrailer (take used u) [] × (used ≤ length u) × (used ≤ MOST_HEAD)
JudgesTrailer u trailer.Open = Awaits Trailer u
JudgesTrailer u trailer.Bad = Breaks Trailer u

-- wherever a body of so many bytes is at the stage, these bytes are its next ones, and bring it to the
-- other stage
abbrev pub Takes : Stage → ℕ → Stage → List ℕ → Type 0
Takes stage held next d =
    (size : BodySize) (body front : List ℕ) → length body ≡ held → Reaches size stage body front → Reaches size next (body ++ d) (front ++ d)

-- the same, where they aren't the body's
abbrev pub Passes : Stage → ℕ → Stage → List ℕ → Type 0
Passes stage held next x = (size : BodySize) (body front : List ℕ) → length body ≡ held → Reaches size stage body front → Reaches size next body (front ++ x)

-- the same, where they end the request
abbrev pub Finishes : Stage → ℕ → List ℕ → Type 0
Finishes stage held x = (size : BodySize) (body front : List ℕ) → length body ≡ held → Reaches size stage body front → IsBody size body (front ++ x)

-- the same, where they make the body too long
abbrev pub Exceeds : Stage → ℕ → List ℕ → Type 0
Exceeds stage held u = (size : BodySize) (body front : List ℕ) → length body ≡ held → Reaches size stage body front → IsTooLong size (front ++ u)

-- what the bytes after a body of so many bytes do at a stage
abbrev pub Turns : Stage → ℕ → List ℕ → Turn → Type 0
Turns stage held u (Took next n) = (0 < n) × (n ≤ length u) × Fits next (held + n) × Takes stage held next (take n u)
Turns stage held u (Past next n) = (0 < n) × (n ≤ length u) × Fits next held × Passes stage held next (take n u)
Turns stage held u (Done n) = (n ≤ length u) × Finishes stage held (take n u)
Turns stage held u Open = Awaits stage u × (length u < MOST_HEAD)
Turns stage held u (Bad BadHead) = ⊥
Turns stage held u (Bad BadLength) = ⊥
Turns stage held u (Bad TooLong) = Exceeds stage held u
Turns stage held u (Bad BadChunk) = Breaks stage u
