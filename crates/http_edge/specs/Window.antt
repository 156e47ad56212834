-- What a window has read and holds.
use Rattle.std.specs.Prelude.{◌≡◌, ℕ, ◌+◌, ◌-◌, ◌≤◌, List, [], ◌∷◌, length, min, Option, Some, None, Result}
use Rattle.event_form.specs.declared.feed_fault.FeedFault.{FeedFault}
use Rattle.stream_grammar.specs.Feeding as feeding
use Rattle.stream_grammar.specs.Feeding.{FeedsPart}
use Rattle.http_edge.specs.declared.fault.HttpFault.{HttpFault}
use Rattle.http_edge.specs.declared.head.Head.{Head}
use Rattle.http_edge.specs.declared.request.HttpItem.{HttpItem}
use Rattle.http_edge.specs.declared.request.HttpItem.TheVariants.{Continue, Request}
use Rattle.http_edge.specs.declared.request.HttpRequest.{HttpRequest}
use Rattle.http_edge.specs.declared.limits.TheConstants.{ROOM}
use Rattle.http_edge.specs.Reading as reading
use Rattle.http_edge.specs.Reading.{Reading, unfed}
use Rattle.http_edge.specs.Waits.{IsHead}

-- What contracts see of a window: what has been read of the stream; how many bytes the heads have of the
-- requests that wait and of the unfinished one; and how many of these are kept beside the window.
pub record Window : Type 0 where
  pub reading : Reading
  pub heads : ℕ
  pub beside : ℕ

-- a window that was fed nothing
abbrev pub clear : Window
clear = record { reading = unfed; heads = 0; beside = 0 }

-- how many bytes the bodies of these items have
abbrev pub bodies : List HttpItem → ℕ
bodies [] = 0
bodies (Continue ∷ items) = bodies items
bodies (Request r ∷ items) = length r.body + bodies items

-- How many bytes it holds: of the requests that wait their heads and bodies; of the unfinished one its head,
-- the body so far and the bytes not read yet; but for what is kept beside.
abbrev pub held_of : Window → ℕ
held_of w = w.heads - w.beside + (bodies w.reading.waiting + length w.reading.body) + length w.reading.unread

-- how much of a piece it takes
abbrev pub taken_of : Window → List ℕ → ℕ
taken_of w piece = min (length piece) (ROOM - held_of w)

-- the bytes taken so far are the items that were given, those that wait, and what is held or a fault
abbrev pub Reads : List ℕ → List HttpItem → Window → Type 0
Reads fed given w = reading.Reads fed given w.reading

-- whatever was read before, that and the bytes after it are read now
abbrev pub ReadsOn : Window → List ℕ → Window → Type 0
ReadsOn = feeding.ReadsOn Reads

-- the fault that was met
abbrev pub fault_of : Window → Option HttpFault
fault_of w = w.reading.fault

-- what a call that feeds a piece leaves
abbrev pub Feeds : Window → List ℕ → Result ℕ (FeedFault HttpFault) → Window → Type 0
Feeds old piece = FeedsPart Reads fault_of (taken_of old piece) old piece

-- the head of a request
abbrev pub head_part : HttpRequest → Head
head_part r = record { method = r.method; target = r.target; minor = r.minor; fields = r.fields }

-- so many bytes have the heads of these requests and of the unfinished one
abbrev pub LinesUp : List HttpItem → Option Head → List ℕ → Type 0
LinesUp [] None ns = ns ≡ []
LinesUp [] (Some head) ns = (n : ℕ) × IsHead head n × (ns ≡ n ∷ [])
LinesUp (Continue ∷ items) begun ns = LinesUp items begun ns
LinesUp (Request r ∷ items) begun ns = (n : ℕ) × (ms : List ℕ) × IsHead (head_part r) n × (ns ≡ n ∷ ms) × LinesUp items begun ms

-- the sum of some numbers, and the first of them
abbrev pub total : List ℕ → ℕ
total [] = 0
total (n ∷ ns) = n + total ns

abbrev pub first_of : List ℕ → ℕ
first_of [] = 0
first_of (n ∷ ns) = n

-- all heads are counted, but for the first one's bytes that are kept beside
abbrev pub CountsHeads : Window → Type 0
CountsHeads w = (ns : List ℕ) × LinesUp w.reading.waiting w.reading.begun ns × (w.heads ≡ total ns) × (w.beside ≤ first_of ns)
