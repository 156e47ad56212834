-- What has been read of a stream, and what is held of it.
use Rattle.std.specs.Prelude.{◌≡◌, ℕ, ◌+◌, ◌++◌, List, [], length, Option, Some, None, Result, ◌<◌}
use Rattle.httparse.specs.Grammar.{ResponseHead, print_response, status_code}
use Rattle.event_form.specs.declared.feed_fault.FeedFault.{FeedFault}
use Rattle.stream_grammar.specs.Feeding as feeding
use Rattle.stream_grammar.specs.Reading as stream
use Rattle.stream_grammar.specs.Reading.{Format, Holding, in_parts}
use Rattle.http_edge.specs.declared.fault.HttpFault.{HttpFault}
use Rattle.http_edge.specs.declared.limits.TheConstants.{MOST_HEAD}
use Rattle.http_edge.specs.declared.stage.Stage.{Stage}
use Rattle.http_edge.specs.declared.stage.Stage.TheVariants.{Plain}
use Rattle.http_edge.specs.Bodies.{Reaches, Awaits}
use Rattle.http_reply.specs.declared.reply.HttpReply.{HttpReply}
use Rattle.http_reply.specs.Heads.{BeginsWith, IsOpenHead}
use Rattle.http_reply.specs.Sizes.{size_of}
use Rattle.http_reply.specs.ReplyStream.{IsStream, IsFaulty}

-- What has been read of a stream: the replies that wait to be taken; the offset of the unfinished reply's first
-- byte; its status, once its head is whole; of its body the stage and the bytes so far; how many of its bytes
-- have been read; those that haven't; and the fault. With a fault nothing is held.
pub record Reading : Type 0 where
  pub waiting : List HttpReply
  pub at : ℕ
  pub begun : Option ℕ
  pub stage : Stage
  pub body : List ℕ
  pub read : ℕ
  pub unread : List ℕ
  pub fault : Option HttpFault

-- nothing was fed
abbrev pub unfed : Reading
unfed = record { waiting = []; at = 0; begun = None; stage = Plain 0; body = []; read = 0; unread = []; fault = None }

-- how many bytes of the unfinished reply have come
abbrev pub come : Reading → ℕ
come r = r.read + length r.unread

-- how many bytes are held of it: those not read yet, and the body so far
abbrev pub held : Reading → ℕ
held r = length r.body + length r.unread

-- what is held is what the bytes of the unfinished reply come to
abbrev pub Holds : Option ℕ → Stage → List ℕ → ℕ → List ℕ → List ℕ → Type 0
Holds None stage body read unread rest = (rest ≡ unread) × (read ≡ 0) × (body ≡ []) × (length rest < MOST_HEAD) × IsOpenHead rest
Holds (Some status) stage body read unread rest =
    (h : ResponseHead) × (front : List ℕ) × BeginsWith rest h (front ++ unread) × (status ≡ status_code h)
    × Reaches (size_of h) stage body front × Awaits stage unread × (read ≡ length (print_response h) + length front)

-- A stream is the replies that are given and an unfinished one, or those and a reply at fault. What of that one stands
-- before the fault is held by nobody, and isn't said.
abbrev pub replies : Format HttpReply HttpFault
replies = record { IsWhole = IsStream; IsFaulty = λ b given at rest e. IsFaulty b given at e.at e.why }

-- an unfinished reply is held in its parts, and of one at fault nothing is
abbrev pub parts : Holding Reading
parts = in_parts (λ rest (r : Reading). Holds r.begun r.stage r.body r.read r.unread rest) (λ (r : Reading). come r ≡ 0)

-- the bytes are these replies, and an unfinished one that is held, or a fault
abbrev pub ReadsTo : List ℕ → List HttpReply → Reading → Option HttpFault → Type 0
ReadsTo fed given r = stream.ReadsTo replies parts fed given r.at r

-- the bytes fed so far are the replies that were taken, those that wait, and what is held or a fault
abbrev pub Reads : List ℕ → List HttpReply → Reading → Type 0
Reads fed taken r = ReadsTo fed (taken ++ r.waiting) r r.fault

-- what a call that feeds a piece leaves
abbrev pub Feeds : Reading → List ℕ → Result (Unit {0}) (FeedFault HttpFault) → Reading → Type 0
Feeds = feeding.Feeds Reads (λ (r : Reading). r.fault)
