-- Chunks, and the trailer after them (RFC 9112, section 7.1).
use Rattle.std.specs.Prelude.{◌≡◌, ℕ, ◌<◌, ◌≤◌, List, [], ◌∷◌, ◌++◌, length}
use Rattle.httparse.specs.Ascii.{crlf_bytes}
use Rattle.httparse.specs.Grammar.{LineEnd, Field, ReadsSection, ChunkLine, IsChunkLine, print_chunk_line, chunk_size}
use Rattle.http_edge.specs.declared.limits.TheConstants.{MOST_FIELDS, MOST_LINE}

-- a chunk line of at most 1,024 bytes, which writes this size
pub record IsLine (size : ℕ) (text : List ℕ) : Type 0 where
  pub line : ChunkLine
  pub is : IsChunkLine line
  pub text_is : text ≡ print_chunk_line line
  pub short : length text ≤ MOST_LINE
  pub size_is : size ≡ chunk_size line

-- a chunk of these data, of which there are some: its line, the data, and CR LF
pub record IsChunk (d : List ℕ) (text : List ℕ) : Type 0 where
  pub line : List ℕ
  pub line_is : IsLine (length d) line
  pub some : 0 < length d
  pub text_is : text ≡ line ++ (d ++ crlf_bytes)

-- the text is chunks, one after another, and the body their data
abbrev pub AreChunks : List (List ℕ) → List ℕ → List ℕ → Type 0
AreChunks [] body text = (body ≡ []) × (text ≡ [])
AreChunks (d ∷ ds) body text =
    (chunk : List ℕ) × (rest_body : List ℕ) × (rest_text : List ℕ)
    × IsChunk d chunk × (body ≡ d ++ rest_body) × (text ≡ chunk ++ rest_text) × AreChunks ds rest_body rest_text

-- t is a trailer of at most 64 fields, and then rest
pub record HoldsTrailer (t rest : List ℕ) : Type 0 where
  pub fields : List Field
  pub last : LineEnd
  pub reads : ReadsSection t fields last rest
  pub few : length fields ≤ MOST_FIELDS

-- no trailer is at the front
abbrev pub HasNoTrailer : List ℕ → Type 0
HasNoTrailer t = (rest : List ℕ) → HoldsTrailer t rest → ⊥

-- no bytes can follow that put a trailer at the front
abbrev pub NeverHasTrailer : List ℕ → Type 0
NeverHasTrailer t = (more : List ℕ) → HasNoTrailer (t ++ more)

-- some bytes after these make them a trailer
abbrev pub MayBecomeTrailer : List ℕ → Type 0
MayBecomeTrailer t = (more : List ℕ) × HoldsTrailer (t ++ more) []
