-- The text of a body: as many bytes as its length says, or chunks and a trailer.
use Rattle.std.specs.Prelude.{◌≡◌, ◌≢◌, ℕ, ◌+◌, ◌<◌, ◌≤◌, ◌⊎◌, List, [], ◌∷◌, ◌++◌, length, take}
use Rattle.httparse.specs.Grammar.{HasNoChunkLine, NeverHasChunkLine, MayBecomeChunkLine}
use Rattle.http_edge.specs.declared.stage.Stage.{Stage}
use Rattle.http_edge.specs.declared.stage.Stage.TheVariants.{Plain, Line, Data, End, Trailer}
use Rattle.http_edge.specs.declared.limits.TheConstants.{MOST_BODY, MOST_HEAD, MOST_LINE}
use Rattle.http_edge.specs.Lengths.{BodySize, Sized, Chunked, BadSize}
use Rattle.http_edge.specs.Chunks.{IsLine, AreChunks, HoldsTrailer, HasNoTrailer, NeverHasTrailer, MayBecomeTrailer}

-- the text is chunks, and then a chunk's line and the first of its data, of which so many are due
pub record IsInChunk (left : ℕ) (body text : List ℕ) : Type 0 where
  pub chunks : List (List ℕ)
  pub before : List ℕ
  pub front : List ℕ
  pub line : List ℕ
  pub data_so_far : List ℕ
  pub are : AreChunks chunks before front
  pub line_is : IsLine (length data_so_far + left) line
  pub some : 0 < length data_so_far + left
  pub body_is : body ≡ before ++ data_so_far
  pub text_is : text ≡ front ++ (line ++ data_so_far)

-- the text is chunks and the last chunk's line
pub record IsPastChunks (body text : List ℕ) : Type 0 where
  pub chunks : List (List ℕ)
  pub front : List ℕ
  pub line : List ℕ
  pub are : AreChunks chunks body front
  pub line_is : IsLine 0 line
  pub text_is : text ≡ front ++ line

-- the text of a body that is framed so brings it to a stage, and is so far this body
abbrev pub Reaches : BodySize → Stage → List ℕ → List ℕ → Type 0
-- so many of its bytes are due
Reaches size (Plain left) body text = (size ≡ Sized (length body + left)) × (length body + left ≤ MOST_BODY) × (text ≡ body)
-- a chunk line is due
Reaches size Line body text = (size ≡ Chunked) × (length body ≤ MOST_BODY) × ((chunks : List (List ℕ)) × AreChunks chunks body text)
-- so many of a chunk's data are due
Reaches size (Data left) body text = (size ≡ Chunked) × (length body + left ≤ MOST_BODY) × IsInChunk left body text
-- CR LF after a chunk's data is due
Reaches size End body text = (size ≡ Chunked) × (length body ≤ MOST_BODY) × IsInChunk 0 body text
-- the trailer is due
Reaches size Trailer body text = (size ≡ Chunked) × (length body ≤ MOST_BODY) × IsPastChunks body text

-- the chunks, the last one's line, and a trailer of at most 16,384 bytes
pub record IsChunkedBody (body text : List ℕ) : Type 0 where
  pub front : List ℕ
  pub trailer : List ℕ
  pub reaches : Reaches Chunked Trailer body front
  pub holds : HoldsTrailer trailer []
  pub short : length trailer ≤ MOST_HEAD
  pub text_is : text ≡ front ++ trailer

-- the text of a whole body, of at most 1,048,576 bytes
abbrev pub IsBody : BodySize → List ℕ → List ℕ → Type 0
IsBody (Sized n) body text = (text ≡ body) × (length body ≡ n) × (n ≤ MOST_BODY)
IsBody Chunked body text = IsChunkedBody body text
IsBody BadSize body text = ⊥

-- the bytes are a front, and no more, of what is due at a stage
abbrev pub Awaits : Stage → List ℕ → Type 0
Awaits (Plain left) u = (0 < left) × (u ≡ [])
Awaits Line u = (length u < MOST_LINE) × HasNoChunkLine u × MayBecomeChunkLine u
Awaits (Data left) u = (0 < left) × (u ≡ [])
Awaits End u = (u ≡ []) ⊎ (u ≡ 13 ∷ [])
Awaits Trailer u = (length u < MOST_HEAD) × HasNoTrailer u × MayBecomeTrailer u

-- the text is no whole body, and may become one
pub record IsOpenBody (size : BodySize) (text : List ℕ) : Type 0 where
  pub stage : Stage
  pub body : List ℕ
  pub front : List ℕ
  pub unread : List ℕ
  pub reaches : Reaches size stage body front
  pub awaits : Awaits stage unread
  pub text_is : text ≡ front ++ unread

-- a length above 1,048,576, or a whole chunk line that raises the sum of the sizes above it
abbrev pub IsTooLong : BodySize → List ℕ → Type 0
IsTooLong (Sized n) text = MOST_BODY < n
IsTooLong Chunked text =
    (body : List ℕ) × (front : List ℕ) × (line : List ℕ) × (more : List ℕ) × (n : ℕ)
    × Reaches Chunked Line body front × IsLine n line × (text ≡ front ++ (line ++ more)) × (MOST_BODY < length body + n)
IsTooLong BadSize text = ⊥

-- the bytes are neither CR LF and more, nor a front of CR LF
abbrev pub IsNoEnd : List ℕ → Type 0
IsNoEnd u = ((c : ℕ) × (v : List ℕ) × (u ≡ c ∷ v) × (c ≢ 13)) ⊎ ((c : ℕ) × (v : List ℕ) × (u ≡ 13 ∷ c ∷ v) × (c ≢ 10))

-- the bytes can't be what is due at a stage: no chunk line within 1,024 bytes, no CR LF, no trailer
-- within 16,384 bytes
abbrev pub Breaks : Stage → List ℕ → Type 0
Breaks (Plain left) u = ⊥
Breaks Line u = NeverHasChunkLine (take MOST_LINE u) ⊎ ((MOST_LINE ≤ length u) × HasNoChunkLine (take MOST_LINE u))
Breaks (Data left) u = ⊥
Breaks End u = IsNoEnd u
Breaks Trailer u = NeverHasTrailer (take MOST_HEAD u) ⊎ ((MOST_HEAD ≤ length u) × HasNoTrailer (take MOST_HEAD u))

-- a chunked text breaks a rule at a place
pub record IsBadChunk (text : List ℕ) (place : ℕ) : Type 0 where
  pub stage : Stage
  pub body : List ℕ
  pub front : List ℕ
  pub unread : List ℕ
  pub reaches : Reaches Chunked stage body front
  pub breaks : Breaks stage unread
  pub text_is : text ≡ front ++ unread
  pub place_is : place ≡ length front
