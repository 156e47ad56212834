-- A stream of requests, its items and its faults.
use Rattle.std.specs.Prelude.{◌≡◌, ℕ, ◌+◌, ◌<◌, ◌≤◌, ◌⊎◌, Bool, List, [], ◌∷◌, ◌++◌, length, take, if◌then◌else◌}
use Rattle.std.specs.List.{flat_map}
use Rattle.stream_grammar.specs.Framing.{AreSpelled}
use Rattle.httparse.specs.Grammar.{RequestHead, print_request}
use Rattle.http_edge.specs.declared.request.HttpRequest.{HttpRequest}
use Rattle.http_edge.specs.declared.request.HttpItem.{HttpItem}
use Rattle.http_edge.specs.declared.request.HttpItem.TheVariants.{Continue, Request}
use Rattle.http_edge.specs.declared.fault.HttpWhy.{HttpWhy}
use Rattle.http_edge.specs.declared.fault.HttpWhy.TheVariants.{BadHead, BadLength, TooLong, BadChunk}
use Rattle.http_edge.specs.declared.limits.TheConstants.{MOST_HEAD}
use Rattle.http_edge.specs.Heads.{HoldsHead, NeverHasHead, IsOpenHead, head_fields}
use Rattle.http_edge.specs.Lengths.{BadSize, Chunked, size_of, asks}
use Rattle.http_edge.specs.Bodies.{IsBody, IsOpenBody, IsTooLong, IsBadChunk}

-- the request of a head and a body
abbrev pub request_of : RequestHead → List ℕ → HttpRequest
request_of h body = record { method = h.method; target = h.target; minor = h.minor; fields = head_fields h; body = body }

-- b is a head that ends in its first 16,384 bytes, and text
pub record BeginsWith (b : List ℕ) (h : RequestHead) (text : List ℕ) : Type 0 where
  pub holds : HoldsHead b h text
  pub short : length (print_request h) ≤ MOST_HEAD

-- the bytes of a request: its head and its body's text
pub record IsRequest (r : HttpRequest) (x : List ℕ) : Type 0 where
  pub head : RequestHead
  pub text : List ℕ
  pub begins : BeginsWith x head text
  pub request_is : r ≡ request_of head r.body
  pub body : IsBody (size_of head) r.body text

-- the item Continue, where it is told
abbrev pub items_if : Bool → List HttpItem
items_if b = if b then Continue ∷ [] else []

-- what is told of a head, and of a request
abbrev pub told_of : RequestHead → List HttpItem
told_of h = items_if (asks h.minor (head_fields h))

abbrev pub items_of : HttpRequest → List HttpItem
items_of r = items_if (asks r.minor r.fields) ++ Request r ∷ []

-- the bytes are of an unfinished request, or none, and these items are told of it
abbrev pub IsOpen : List ℕ → List HttpItem → Type 0
IsOpen rest items =
    ((length rest < MOST_HEAD) × IsOpenHead rest × (items ≡ []))
    ⊎ ((h : RequestHead) × (text : List ℕ) × BeginsWith rest h text × IsOpenBody (size_of h) text × (items ≡ told_of h))

-- what is at fault, how far after the request's first byte, and the items told of it before
abbrev pub IsFault : List ℕ → HttpWhy → ℕ → List HttpItem → Type 0
IsFault rest BadHead place items = NeverHasHead (take MOST_HEAD rest) × (place ≡ 0) × (items ≡ [])
IsFault rest BadLength place items =
    (h : RequestHead) × (text : List ℕ) × BeginsWith rest h text × (size_of h ≡ BadSize) × (place ≡ 0) × (items ≡ [])
IsFault rest TooLong place items =
    ((MOST_HEAD ≤ length rest) × IsOpenHead (take MOST_HEAD rest) × (place ≡ 0) × (items ≡ []))
    ⊎ ((h : RequestHead) × (text : List ℕ) × BeginsWith rest h text × IsTooLong (size_of h) text × (place ≡ 0) × (items ≡ told_of h))
IsFault rest BadChunk place items =
    (h : RequestHead) × (text : List ℕ) × (at : ℕ) × BeginsWith rest h text × (size_of h ≡ Chunked) × IsBadChunk text at
    × (place ≡ length (print_request h) + at) × (items ≡ told_of h)

-- the bytes are whole requests, whose items these are, and which end at a place, and then rest
pub record AreRequests (b : List ℕ) (items : List HttpItem) (at : ℕ) (rest : List ℕ) : Type 0 where
  pub requests : List HttpRequest
  pub front : List ℕ
  pub spelled : AreSpelled IsRequest requests front
  pub whole : b ≡ front ++ rest
  pub at_is : at ≡ length front
  pub items_are : items ≡ flat_map items_of requests

-- the bytes are whole requests, and then an unfinished one, or none
pub record IsStream (b : List ℕ) (items : List HttpItem) (at : ℕ) (rest : List ℕ) : Type 0 where
  pub before : List HttpItem
  pub told : List HttpItem
  pub requests : AreRequests b before at rest
  pub items_are : items ≡ before ++ told
  pub going : IsOpen rest told

-- the bytes are whole requests, and then one at fault
pub record IsFaulty (b : List ℕ) (items : List HttpItem) (at place : ℕ) (why : HttpWhy) : Type 0 where
  pub before : List HttpItem
  pub told : List HttpItem
  pub rest : List ℕ
  pub offset : ℕ
  pub requests : AreRequests b before at rest
  pub items_are : items ≡ before ++ told
  pub place_is : place ≡ at + offset
  pub fault : IsFault rest why offset told
