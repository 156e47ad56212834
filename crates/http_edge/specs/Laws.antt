-- What holds of the definitions alone.
use Rattle.std.specs.Prelude.{◌≡◌, ◌≢◌, ℕ, ◌<◌, ◌≤◌, ◌⊎◌, ◌↔◌, List, [], ◌++◌, length, take, drop, All}
use Rattle.httparse.specs.Ascii.{crlf_bytes}
use Rattle.httparse.specs.Grammar.{EndsInTarget, ChunkLine, IsChunkLine, print_chunk_line, chunk_size, Field, IsField, LineEnd, print_section}
use Rattle.stream_grammar.specs.Framing.{AreSpelled}
use Rattle.http_edge.specs.declared.fault.HttpWhy.{HttpWhy}
use Rattle.http_edge.specs.declared.fault.HttpWhy.TheVariants.{BadHead, TooLong}
use Rattle.http_edge.specs.declared.request.HttpItem.{HttpItem}
use Rattle.http_edge.specs.declared.request.HttpRequest.{HttpRequest}
use Rattle.http_edge.specs.declared.limits.TheConstants.{MOST_HEAD}
use Rattle.http_edge.specs.Heads.{NeverHasHead}
use Rattle.http_edge.specs.Lengths.{BodySize, Sized, Chunked, BadSize}
use Rattle.http_edge.specs.Bodies.{IsBody, IsOpenBody, IsTooLong, IsBadChunk}
use Rattle.http_edge.specs.HttpStream.{IsRequest, AreRequests, IsStream, IsFaulty}

-- No request's bytes begin another one's, whatever follows.
abbrev pub RequestsOnce : Type 0
RequestsOnce = (r s : HttpRequest) (x y a b : List ℕ) → IsRequest r x → IsRequest s y → x ++ a ≡ y ++ b → (r ≡ s) × (x ≡ y) × (a ≡ b)

-- Where bytes are read without a fault, they alone decide the items, the offset and the rest.
abbrev pub OneReading : Type 0
OneReading =
    (fed : List ℕ) (items others : List HttpItem) (m n : ℕ) (rest last : List ℕ)
    → IsStream fed items m rest → IsStream fed others n last → (items ≡ others) × (m ≡ n) × (rest ≡ last)

-- The bytes end inside a request's target, and no head can come of them: the target is no text, and no bytes
-- that follow make it one. The definitions leave open whether that is a fault before the target's end.
abbrev pub IsLeftOpen : List ℕ → Type 0
IsLeftOpen b = EndsInTarget b × NeverHasHead b

-- one reason is that no head can come, and the other that the head is too long
abbrev pub AreBothReasons : HttpWhy → HttpWhy → Type 0
AreBothReasons why other = ((why ≡ BadHead) × (other ≡ TooLong)) ⊎ ((why ≡ TooLong) × (other ≡ BadHead))

-- Bytes with a fault alone decide the items, the offset, the place and the reason; but for the reason where
-- a request's first 16,384 bytes are left open.
abbrev pub OneFault : Type 0
OneFault =
    (fed : List ℕ) (items others : List HttpItem) (m n place other_place : ℕ) (why other : HttpWhy)
    → IsFaulty fed items m place why → IsFaulty fed others n other_place other
    → (items ≡ others) × (m ≡ n) × (place ≡ other_place) × ((why ≡ other) ⊎ (AreBothReasons why other × IsLeftOpen (take MOST_HEAD (drop m fed))))

-- Bytes with a fault have no reading without one, but where the unfinished request's bytes are left open.
-- There the fault is that no head can come, at the request's first byte, and the items are the same.
abbrev pub FaultOrStream : Type 0
FaultOrStream =
    (fed : List ℕ) (items others : List HttpItem) (m n place : ℕ) (why : HttpWhy) (rest : List ℕ) → IsFaulty fed items m place why → IsStream fed others n rest
    → IsLeftOpen rest × (why ≡ BadHead) × (items ≡ others) × (m ≡ n) × (place ≡ n)

-- And where the bytes after whole requests are left open, both are readings: that no head can come, and
-- an unfinished request; or with 16,384 bytes, a head that is too long.
abbrev pub BothReadings : Type 0
BothReadings =
    (fed : List ℕ) (items : List HttpItem) (m : ℕ) (rest : List ℕ) → AreRequests fed items m rest → IsLeftOpen (take MOST_HEAD rest)
    → IsFaulty fed items m m BadHead × (length rest < MOST_HEAD → IsStream fed items m rest) × (MOST_HEAD ≤ length rest → IsFaulty fed items m m TooLong)

-- the text is a whole body and what follows it
abbrev pub BeginsWithBody : BodySize → List ℕ → Type 0
BeginsWithBody size text = (body : List ℕ) × (front : List ℕ) × (rest : List ℕ) × IsBody size body front × (text ≡ front ++ rest)

-- the body is framed against the rules, is too long, or breaks a rule of chunks
abbrev pub IsBodyFault : BodySize → List ℕ → Type 0
IsBodyFault size text = (size ≡ BadSize) ⊎ (IsTooLong size text ⊎ ((size ≡ Chunked) × ((place : ℕ) × IsBadChunk text place)))

-- Every text begins with a whole body, is open, or is at fault.
abbrev pub SomeBody : Type 0
SomeBody = (size : BodySize) (text : List ℕ) → BeginsWithBody size text ⊎ (IsOpenBody size text ⊎ IsBodyFault size text)

-- a chunk of RFC 9112, section 7.1: a line, whose size has at most 16 digits, as many data as it says, of
-- which there are some, and CR LF
pub record IsAnyChunk (data_bytes text : List ℕ) : Type 0 where
  pub line : ChunkLine
  pub line_is : IsChunkLine line
  pub size_is : length data_bytes ≡ chunk_size line
  pub some : 0 < length data_bytes
  pub text_is : text ≡ print_chunk_line line ++ (data_bytes ++ crlf_bytes)

-- chunked-body of the same section: chunks, the last chunk's line, and a trailer, each of any length
pub record IsAnyChunked (text : List ℕ) : Type 0 where
  pub chunks : List (List ℕ)
  pub front : List ℕ
  pub last : ChunkLine
  pub fields : List Field
  pub end : LineEnd
  pub spelled : AreSpelled IsAnyChunk chunks front
  pub last_is : IsChunkLine last
  pub none : chunk_size last ≡ 0
  pub fields_are : All IsField fields
  pub text_is : text ≡ front ++ (print_chunk_line last ++ print_section fields end)

-- a body's text by the standard, of any length
abbrev pub IsAnyBody : BodySize → List ℕ → Type 0
IsAnyBody (Sized n) text = length text ≡ n
IsAnyBody Chunked text = IsAnyChunked text
IsAnyBody BadSize text = ⊥

-- A whole body is one by the standard.
abbrev pub WholeBodies : Type 0
WholeBodies = (size : BodySize) (body text : List ℕ) → IsBody size body text → IsAnyBody size text

-- A text is open exactly where bytes can follow that make it a body by the standard, and it neither begins
-- with a whole body nor is at fault.
abbrev pub OpenBodies : Type 0
OpenBodies =
    (size : BodySize) (text : List ℕ)
    → IsOpenBody size text ↔ (((more : List ℕ) × IsAnyBody size (text ++ more)) × (BeginsWithBody size text → ⊥) × (IsBodyFault size text → ⊥))

-- What a whole body begins with is open, until the body is whole.
abbrev pub FrontsAreOpen : Type 0
FrontsAreOpen = (size : BodySize) (body text more : List ℕ) → IsBody size body (text ++ more) → more ≢ [] → IsOpenBody size text

-- Whatever follows a text at fault, no body comes of it.
abbrev pub FaultsStay : Type 0
FaultsStay = (size : BodySize) (text more : List ℕ) → IsBodyFault size text → BeginsWithBody size (text ++ more) → ⊥

-- A fault of chunks is placed at one of the bytes, and those before it are open.
abbrev pub PlacesAreOpen : Type 0
PlacesAreOpen = (text : List ℕ) (place : ℕ) → IsBadChunk text place → (place < length text) × IsOpenBody Chunked (take place text)
