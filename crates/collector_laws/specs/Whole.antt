-- Requests within their limits (RFC 9112, sections 2 to 7).
use Rattle.std.specs.Prelude.{◌≡◌, ◌↔◌, ℕ, ◌≤◌, List, ◌++◌, length, All}
use Rattle.std.specs.List.{concat}
use Rattle.httparse.specs.Grammar.{ChunkLine, Field, IsChunkLine, IsField, IsRequestHead, LineEnd, RequestHead, chunk_size, print_chunk_line, print_request, print_section}
use Rattle.stream_grammar.specs.Framing.{AreSpelled}
use Rattle.http_edge.specs.declared.limits.TheConstants.{MOST_BODY, MOST_FIELDS, MOST_HEAD, MOST_LINE}
use Rattle.http_edge.specs.Bodies.{IsBody}
use Rattle.http_edge.specs.HttpStream.{IsRequest, request_of}
use Rattle.http_edge.specs.Laws.{IsAnyChunk}
use Rattle.http_edge.specs.Lengths.{Chunked, Sized, size_of}

-- a chunk whose line has at most 1,024 bytes
pub record IsFittingChunk (bytes text : List ℕ) : Type 0 where
  pub chunk : IsAnyChunk bytes text
  pub short : length (print_chunk_line chunk.line) ≤ MOST_LINE

-- chunked-body of section 7.1, of these bytes, which keeps the limits: 1,024 bytes a chunk line, 64 fields and 16,384 bytes of trailer,
-- and 1,048,576 bytes in all chunks
pub record IsFitting (body text : List ℕ) : Type 0 where
  pub chunks : List (List ℕ)
  pub front : List ℕ
  pub last : ChunkLine
  pub fields : List Field
  pub end : LineEnd
  pub spelled : AreSpelled IsFittingChunk chunks front
  pub last_is : IsChunkLine last
  pub none : chunk_size last ≡ 0
  pub last_short : length (print_chunk_line last) ≤ MOST_LINE
  pub fields_are : All IsField fields
  pub few : length fields ≤ MOST_FIELDS
  pub short : length (print_section fields end) ≤ MOST_HEAD
  pub body_is : body ≡ concat chunks
  pub fits : length body ≤ MOST_BODY
  pub text_is : text ≡ front ++ (print_chunk_line last ++ print_section fields end)

-- Bytes within the limit are whole as a body of their length.
abbrev pub SizedIsWhole : Type 0
SizedIsWhole = (body : List ℕ) → length body ≤ MOST_BODY → IsBody (Sized (length body)) body body

-- A text is whole as a chunked body of some bytes exactly where it is one of them by the standard, within the limits.
abbrev pub ChunkedIsWhole : Type 0
ChunkedIsWhole = (body text : List ℕ) → IsBody Chunked body text ↔ IsFitting body text

-- A head within the limits and a whole body, framed as the head says, are a request.
abbrev pub RequestIsWhole : Type 0
RequestIsWhole =
    (h : RequestHead) (body text : List ℕ) → IsRequestHead h → length h.fields ≤ MOST_FIELDS → length (print_request h) ≤ MOST_HEAD
    → IsBody (size_of h) body text
    → IsRequest (request_of h body) (print_request h ++ text)
