-- What has been read of a stream, and what is held of it.
use Rattle.std.specs.Prelude.{◌≡◌, ℕ, ◌+◌, ◌++◌, List, [], length, Option, Some, None, Result, ◌<◌}
use Rattle.httparse.specs.Grammar.{RequestHead, print_request}
use Rattle.event_form.specs.declared.feed_fault.FeedFault.{FeedFault}
use Rattle.stream_grammar.specs.Feeding as feeding
use Rattle.stream_grammar.specs.Reading as stream
use Rattle.stream_grammar.specs.Reading.{Format, Holding, in_parts}
use Rattle.http_edge.specs.declared.request.HttpItem.{HttpItem}
use Rattle.http_edge.specs.declared.fault.HttpFault.{HttpFault}
use Rattle.http_edge.specs.declared.head.Head.{Head}
use Rattle.http_edge.specs.declared.stage.Stage.{Stage}
use Rattle.http_edge.specs.declared.stage.Stage.TheVariants.{Plain}
use Rattle.http_edge.specs.declared.limits.TheConstants.{MOST_HEAD}
use Rattle.http_edge.specs.Heads.{IsOpenHead, head_fields}
use Rattle.http_edge.specs.Lengths.{size_of}
use Rattle.http_edge.specs.Bodies.{Reaches, Awaits}
use Rattle.http_edge.specs.HttpStream.{BeginsWith, IsStream, IsFaulty}

-- What has been read of a stream: the items that wait to be taken; the offset of the unfinished
-- request's first byte; its head, once that is whole; of its body the stage and the bytes so far; how many
-- of its bytes have been read; those that haven't; and the fault. With a fault nothing is held.
pub record Reading : Type 0 where
  pub waiting : List HttpItem
  pub at : ℕ
  pub begun : Option Head
  pub stage : Stage
  pub body : List ℕ
  pub read : ℕ
  pub unread : List ℕ
  pub fault : Option HttpFault

-- nothing was fed
abbrev pub unfed : Reading
unfed = record { waiting = []; at = 0; begun = None; stage = Plain 0; body = []; read = 0; unread = []; fault = None }

-- how many bytes of the unfinished request have come
abbrev pub come : Reading → ℕ
come r = r.read + length r.unread

-- how many bytes are held of it: those not read yet, and the body so far
abbrev pub held : Reading → ℕ
held r = length r.body + length r.unread

-- the head's parts
abbrev pub head_of : RequestHead → Head
head_of h = record { method = h.method; target = h.target; minor = h.minor; fields = head_fields h }

-- what is held is what the bytes of the unfinished request come to
abbrev pub Holds : Option Head → Stage → List ℕ → ℕ → List ℕ → List ℕ → Type 0
Holds None stage body read unread rest = (rest ≡ unread) × (read ≡ 0) × (body ≡ []) × (length rest < MOST_HEAD) × IsOpenHead rest
Holds (Some head) stage body read unread rest =
    (h : RequestHead) × (front : List ℕ) × BeginsWith rest h (front ++ unread) × (head ≡ head_of h)
    × Reaches (size_of h) stage body front × Awaits stage unread × (read ≡ length (print_request h) + length front)

-- A stream is items and an unfinished request, or items and a request at fault. What of that one stands before the
-- fault is held by nobody, and isn't said.
abbrev pub http : Format HttpItem HttpFault
http = record { IsWhole = IsStream; IsFaulty = λ b items at rest e. IsFaulty b items at e.at e.why }

-- an unfinished request is held in its parts, and of one at fault nothing is
abbrev pub parts : Holding Reading
parts = in_parts (λ rest (r : Reading). Holds r.begun r.stage r.body r.read r.unread rest) (λ (r : Reading). come r ≡ 0)

-- the bytes are these items, and an unfinished request that is held, or a fault
abbrev pub ReadsTo : List ℕ → List HttpItem → Reading → Option HttpFault → Type 0
ReadsTo fed items r = stream.ReadsTo http parts fed items r.at r

-- the bytes fed so far are the items that were taken, those that wait, and what is held or a fault
abbrev pub Reads : List ℕ → List HttpItem → Reading → Type 0
Reads fed taken r = ReadsTo fed (taken ++ r.waiting) r r.fault

-- whatever was read before, that and the piece after it are read now
abbrev pub ReadsOn : Reading → List ℕ → Reading → Type 0
ReadsOn = feeding.ReadsOn Reads

-- what a call that feeds a piece leaves
abbrev pub Feeds : Reading → List ℕ → Result (Unit {0}) (FeedFault HttpFault) → Reading → Type 0
Feeds = feeding.Feeds Reads (λ (r : Reading). r.fault)
