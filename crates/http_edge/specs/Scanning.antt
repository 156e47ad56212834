-- What has been read of bytes that begin where a request does.
use Rattle.std.specs.Prelude.{◌≡◌, ℕ, ◌+◌, ◌-◌, ◌≤◌, ◌<◌, List, [], ◌∷◌, ◌++◌, length, take, drop, Option, Some, None}
use Rattle.http_edge.specs.declared.fault.HttpFault.{HttpFault}
use Rattle.http_edge.specs.declared.fault.HttpWhy.{HttpWhy}
use Rattle.http_edge.specs.declared.fault.HttpWhy.TheVariants.{BadHead, BadLength, TooLong, BadChunk}
use Rattle.http_edge.specs.declared.head.Head.{Head}
use Rattle.http_edge.specs.declared.next.Next.{Next}
use Rattle.http_edge.specs.declared.next.Next.TheVariants.{Whole, Part, Open, Bad}
use Rattle.http_edge.specs.declared.request.HttpItem.{HttpItem}
use Rattle.http_edge.specs.declared.request.HttpItem.TheVariants.{Request}
use Rattle.http_edge.specs.declared.left.Left.{Left}
use Rattle.http_edge.specs.declared.scan.Scanned.{Scanned}
use Rattle.http_edge.specs.declared.waiting.Waiting.{Waiting}
use Rattle.http_edge.specs.declared.stage.Stage.{Stage}
use Rattle.http_edge.specs.declared.stage.Stage.TheVariants.{Plain}
use Rattle.http_edge.specs.declared.limits.TheConstants.{MOST_HEAD}
use Rattle.http_edge.specs.Heads.{IsOpenHead}
use Rattle.http_edge.specs.HttpStream.{IsRequest, items_if, items_of, IsOpen, IsFault, AreRequests}
use Rattle.http_edge.specs.Reading.{Holds}
use Rattle.http_edge.specs.Waits.{AreHeads, IsHead, bodies_of, heads_of, items_in, with_body}
use Rattle.http_edge.specs.Steps.{Fits}

-- how far after a request's first byte a fault of its body lies that was found at this place
abbrev pub place_of : HttpWhy → ℕ → ℕ
place_of BadHead at = 0
place_of BadLength at = 0
place_of TooLong at = 0
place_of BadChunk at = at

-- the bytes are of an unfinished request of which these items are told, and this is held, within the limits
pub record IsLeft (rest : List ℕ) (told : List HttpItem) (begun : Option Head) (stage : Stage) (body : List ℕ) (read : ℕ) (unread : List ℕ) : Type 0 where
  pub going : IsOpen rest told
  pub holds : Holds begun stage body read unread rest
  pub fits : Fits stage (length body)
  pub short : length unread < MOST_HEAD

-- What stands at the front of bytes, of whose body these are the bytes.
abbrev pub Nexts : List ℕ → List ℕ → Next → Type 0
Nexts b got (Whole p asks used) =
    IsRequest (with_body p.head got) (take used b) × (0 < used) × (used ≤ length b)
    × (items_of (with_body p.head got) ≡ items_if asks ++ Request (with_body p.head got) ∷ [])
    × IsHead p.head p.size × (p.body ≡ length got) × (p.size + length got ≤ used)
Nexts b got (Part p) =
    IsLeft b (items_if p.asks) (Some p.head) p.stage got p.used (drop p.used b) × (p.used ≤ length b)
    × IsHead p.head p.size × (p.body ≡ length got) × (p.size + length got ≤ p.used)
Nexts b got Open = (length b < MOST_HEAD) × IsOpenHead b × (got ≡ [])
Nexts b got (Bad why asks at) = IsFault b why at (items_if asks) × (at ≤ length b)

-- the same, where they are appended
pub record NextsInto (b old new : List ℕ) (n : Next) : Type 0 where
  pub got : List ℕ
  pub added : new ≡ old ++ got
  pub few : length got ≤ length b
  pub nexts : Nexts b got n

-- after a fault nothing is held
abbrev pub cleared : ℕ → HttpFault → Left
cleared from fault = record { from = from; begun = None; size = 0; stage = Plain 0; body = 0; read = 0; rest = 0; fault = Some fault }

-- what is after the last whole request: an unfinished one, or one at fault
abbrev pub Leaves : Option HttpFault → ℕ → List ℕ → List HttpItem → Option Head → Stage → List ℕ → ℕ → List ℕ → Type 0
Leaves None from rest told begun stage body read unread = IsLeft rest told begun stage body read unread
Leaves (Some e) from rest told begun stage body read unread =
    (offset : ℕ) × IsFault rest e.why offset told × (e.at ≡ from + offset) × (read ≡ 0) × (unread ≡ [])

-- places of faults are within so many bytes
abbrev pub StandsWithin : Option HttpFault → ℕ → Type 0
StandsWithin None n = Unit {0}
StandsWithin (Some e) n = e.at ≤ n

-- what some bytes brought
pub record ScansTo (b : List ℕ) (items : List HttpItem) (from : ℕ) (begun : Option Head) (stage : Stage) (body : List ℕ) (read : ℕ) (unread : List ℕ)
    (fault : Option HttpFault) : Type 0 where
  pub before : List HttpItem
  pub told : List HttpItem
  pub requests : AreRequests b before from (drop from b)
  pub items_are : items ≡ before ++ told
  pub fits : Fits stage (length body)
  pub short : length unread < MOST_HEAD
  pub room : from + read + length unread ≤ length b
  pub place : StandsWithin fault (length b)
  pub leaves : Leaves fault from (drop from b) told begun stage body read unread

-- a head of so many bytes, if there is one
abbrev pub IsBegun : Option Head → ℕ → Type 0
IsBegun None size = size ≡ 0
IsBegun (Some head) size = IsHead head size

-- what some bytes brought, whose bodies are these bytes and then those of the unfinished request
pub record Scans (b got body : List ℕ) (queue : List Waiting) (heads : ℕ) (l : Left) : Type 0 where
  pub scans : ScansTo b (items_in queue got) l.from l.begun l.stage body l.read (drop (length b - l.rest) b) l.fault
  pub bodies : bodies_of queue ≡ length got
  pub heads_are : heads ≡ heads_of queue
  pub are_heads : AreHeads queue
  pub begun : IsBegun l.begun l.size
  pub body_is : l.body ≡ length body
  pub whole : heads + length got ≤ l.from
  pub part : l.size + length body ≤ l.read
  pub rest : l.from + l.read + l.rest ≤ length b

-- the same, where the items and the bytes are appended
pub record ScansInto (b : List ℕ) (before after : List Waiting) (old new : List ℕ) (s : Scanned) : Type 0 where
  pub queue : List Waiting
  pub got : List ℕ
  pub body : List ℕ
  pub queued : after ≡ before ++ queue
  pub added : new ≡ old ++ (got ++ body)
  pub scans : Scans b got body queue s.heads s.left
