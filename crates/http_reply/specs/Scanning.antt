-- What has been read of bytes that begin where a reply does.
use Rattle.std.specs.Prelude.{◌≡◌, ℕ, ◌+◌, ◌≤◌, ◌<◌, List, [], length, take, drop, Option, Some, None}
use Rattle.http_edge.specs.declared.fault.HttpFault.{HttpFault}
use Rattle.http_edge.specs.declared.limits.TheConstants.{MOST_HEAD}
use Rattle.http_edge.specs.declared.stage.Stage.{Stage}
use Rattle.http_edge.specs.declared.stage.Stage.TheVariants.{Plain}
use Rattle.http_edge.specs.Steps.{Fits}
use Rattle.http_reply.specs.declared.left.Left.{Left}
use Rattle.http_reply.specs.declared.next.Next.{Next}
use Rattle.http_reply.specs.declared.next.Next.TheVariants.{Whole, Part, Open, Bad}
use Rattle.http_reply.specs.declared.reply.HttpReply.{HttpReply}
use Rattle.http_reply.specs.declared.scan.Scanned.{Scanned}
use Rattle.http_reply.specs.Heads.{IsOpenHead}
use Rattle.http_reply.specs.ReplyStream.{IsReply, IsOpen, IsFault, AreReplies}
use Rattle.http_reply.specs.Reading.{Holds}

-- the bytes are of an unfinished reply, and this is held of it, within the limits
pub record IsLeft (rest : List ℕ) (begun : Option ℕ) (stage : Stage) (body : List ℕ) (read : ℕ) (unread : List ℕ) : Type 0 where
  pub going : IsOpen rest
  pub holds : Holds begun stage body read unread rest
  pub fits : Fits stage (length body)
  pub short : length unread < MOST_HEAD

-- what stands at the front of bytes
abbrev pub Nexts : List ℕ → Next → Type 0
Nexts b (Whole status body used) = ((at : ℕ) → IsReply (record { status = status; body = body.items; at = at }) (take used b)) × (0 < used) × (used ≤ length b)
Nexts b (Part p) = IsLeft b (Some p.status) p.stage p.body.items p.used (drop p.used b) × (p.used ≤ length b)
Nexts b Open = (length b < MOST_HEAD) × IsOpenHead b
Nexts b (Bad why at) = IsFault b why at × (at ≤ length b)

-- after a fault nothing is held
pub record IsCleared (l : Left) (from : ℕ) (fault : HttpFault) : Type 0 where
  pub from_is : l.from ≡ from
  pub begun_is : l.begun ≡ None
  pub stage_is : l.stage ≡ Plain 0
  pub body_is : l.body.items ≡ []
  pub read_is : l.read ≡ 0
  pub unread_is : l.unread.items ≡ []
  pub fault_is : l.fault ≡ Some fault

-- what is after the last whole reply, which ends at an offset: an unfinished one, or one at fault
abbrev pub Leaves : Option HttpFault → ℕ → List ℕ → Option ℕ → Stage → List ℕ → ℕ → List ℕ → Type 0
Leaves None at rest begun stage body read unread = IsLeft rest begun stage body read unread
Leaves (Some e) at rest begun stage body read unread = (offset : ℕ) × IsFault rest e.why offset × (e.at ≡ at + offset) × (read ≡ 0) × (unread ≡ [])

-- what some bytes from an offset on brought
pub record ScansTo (base : ℕ) (b : List ℕ) (given : List HttpReply) (from : ℕ) (begun : Option ℕ) (stage : Stage) (body : List ℕ) (read : ℕ)
    (unread : List ℕ) (fault : Option HttpFault) : Type 0 where
  pub replies : AreReplies base b given from (drop from b)
  pub fits : Fits stage (length body)
  pub short : length unread < MOST_HEAD
  pub room : from + read + length unread ≤ length b
  pub leaves : Leaves fault (base + from) (drop from b) begun stage body read unread

abbrev pub Scans : ℕ → List ℕ → Scanned → Type 0
Scans base b s = ScansTo base b s.replies.items s.left.from s.left.begun s.left.stage s.left.body.items s.left.read s.left.unread.items s.left.fault
