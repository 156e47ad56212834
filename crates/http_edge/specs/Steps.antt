-- What the steps of a window say of the head that they look at.
use Rattle.std.specs.Prelude.{◌≡◌, ℕ, ◌+◌, ◌≤◌, ◌<◌, List, [], length, drop, Result, Ok, Err}
use Rattle.httparse.specs.Grammar.{RequestHead, print_request}
use Rattle.httparse.specs.Spans.{IsRequestWithin, IsRequestAt}
use Rattle.httparse.specs.declared.spans.HeaderSpan.{HeaderSpan}
use Rattle.httparse.specs.declared.spans.RequestSpans.{RequestSpans}
use Rattle.http_edge.specs.declared.fault.HttpWhy.{HttpWhy}
use Rattle.http_edge.specs.declared.fault.HttpWhy.TheVariants.{BadHead, BadLength, TooLong, BadChunk}
use Rattle.http_edge.specs.declared.head.Head.{Head}
use Rattle.http_edge.specs.declared.head.HeadTurn.{HeadTurn}
use Rattle.http_edge.specs.declared.head.HeadTurn.TheVariants.{Whole, Open, Bad}
use Rattle.http_edge.specs.declared.length.Size.{Size}
use Rattle.http_edge.specs.declared.length.Size.TheVariants as size
use Rattle.http_edge.specs.declared.look.Look.{Look}
use Rattle.http_edge.specs.declared.look.Look.TheVariants as look
use Rattle.http_edge.specs.declared.look.Opening.{Opening}
use Rattle.http_edge.specs.declared.stage.Stage.{Stage}
use Rattle.http_edge.specs.declared.stage.Stage.TheVariants.{Plain, Line, Data, End, Trailer}
use Rattle.http_edge.specs.declared.limits.TheConstants.{MOST_BODY, MOST_FIELDS, MOST_HEAD}
use Rattle.http_edge.specs.Heads.{IsOpenHead, NeverHasHead}
use Rattle.http_edge.specs.Lengths.{BodySize, Sized, Chunked, BadSize, size_of, asks}
use Rattle.http_edge.specs.Bodies.{Reaches}
use Rattle.http_edge.specs.HttpStream.{BeginsWith, IsFault}
use Rattle.http_edge.specs.Reading.{head_of}

-- what the first bytes of a request are
abbrev pub JudgesHead : List ℕ → List HeaderSpan → HeadTurn → Type 0
JudgesHead b spans (Whole r) = IsRequestWithin b spans r × ((h : RequestHead) × IsRequestAt b spans r h × (length h.fields ≤ MOST_FIELDS))
JudgesHead b spans Open = IsOpenHead b
JudgesHead b spans Bad = NeverHasHead b

-- the head that the spans cover
abbrev pub MakesHead : List ℕ → List HeaderSpan → RequestSpans → Head → Type 0
MakesHead b spans r head = (h : RequestHead) × IsRequestAt b spans r h × (length h.fields ≤ MOST_FIELDS) × (head ≡ head_of h)

-- how a body is framed
abbrev pub IsSize : Size → BodySize → Type 0
IsSize (size.Length n) z = (z ≡ Sized n) × (n ≤ MOST_BODY)
IsSize size.Chunked z = z ≡ Chunked
IsSize size.TooLong z = (n : ℕ) × (z ≡ Sized n) × (MOST_BODY < n)
IsSize size.Bad z = z ≡ BadSize

-- a body of so many bytes, and what is due at the stage, keep the limits
abbrev pub Fits : Stage → ℕ → Type 0
Fits (Plain left) n = n + left ≤ MOST_BODY
Fits Line n = n ≤ MOST_BODY
Fits (Data left) n = (0 < left) × (n + left ≤ MOST_BODY)
Fits End n = n ≤ MOST_BODY
Fits Trailer n = n ≤ MOST_BODY

-- what is due first of a body, or why none may come
abbrev pub StartsAt : BodySize → Result Stage HttpWhy → Type 0
StartsAt z (Ok stage) = Reaches z stage [] [] × Fits stage 0
StartsAt z (Err BadHead) = ⊥
StartsAt z (Err BadLength) = z ≡ BadSize
StartsAt z (Err TooLong) = (n : ℕ) × (z ≡ Sized n) × (MOST_BODY < n)
StartsAt z (Err BadChunk) = ⊥

-- the bytes begin with this head
pub record IsOpening (b : List ℕ) (o : Opening) : Type 0 where
  pub head : RequestHead
  pub begins : BeginsWith b head (drop o.len b)
  pub len_is : o.len ≡ length (print_request head)
  pub some : 0 < o.len
  pub inside : o.len ≤ length b
  pub head_is : o.head ≡ head_of head
  pub reaches : Reaches (size_of head) o.stage [] []
  pub fits : Fits o.stage 0
  pub asks_is : o.asks ≡ asks o.head.minor o.head.fields

-- what stands at the front of bytes
abbrev pub Looks : List ℕ → Look → Type 0
Looks b look.Open = (length b < MOST_HEAD) × IsOpenHead b
Looks b (look.Bad why) = IsFault b why 0 []
Looks b (look.Whole o) = IsOpening b o
