-- What the steps of a reader say of the head that they look at.
use Rattle.std.specs.Prelude.{◌≡◌, ℕ, ◌≤◌, ◌<◌, List, [], length, drop}
use Rattle.httparse.specs.Grammar.{ResponseHead, print_response, status_code}
use Rattle.httparse.specs.Spans.{IsResponseWithin, IsResponseAt}
use Rattle.httparse.specs.declared.spans.HeaderSpan.{HeaderSpan}
use Rattle.http_edge.specs.declared.limits.TheConstants.{MOST_FIELDS, MOST_HEAD}
use Rattle.http_edge.specs.Bodies.{Reaches}
use Rattle.http_edge.specs.Steps.{Fits}
use Rattle.http_reply.specs.declared.head.HeadTurn.{HeadTurn}
use Rattle.http_reply.specs.declared.head.HeadTurn.TheVariants.{Whole, Open, Bad}
use Rattle.http_reply.specs.declared.look.Look.{Look}
use Rattle.http_reply.specs.declared.look.Look.TheVariants as look
use Rattle.http_reply.specs.declared.look.Opening.{Opening}
use Rattle.http_reply.specs.Heads.{BeginsWith, IsOpenHead, NeverHasHead}
use Rattle.http_reply.specs.Sizes.{size_of}
use Rattle.http_reply.specs.ReplyStream.{IsFault}

-- what the first bytes of a reply are
abbrev pub JudgesHead : List ℕ → List HeaderSpan → HeadTurn → Type 0
JudgesHead b spans (Whole r) = IsResponseWithin b spans r × ((h : ResponseHead) × IsResponseAt b spans r h × (length h.fields ≤ MOST_FIELDS))
JudgesHead b spans Open = IsOpenHead b
JudgesHead b spans Bad = NeverHasHead b

-- the bytes begin with this head
pub record IsOpening (b : List ℕ) (o : Opening) : Type 0 where
  pub head : ResponseHead
  pub begins : BeginsWith b head (drop o.len b)
  pub len_is : o.len ≡ length (print_response head)
  pub some : 0 < o.len
  pub inside : o.len ≤ length b
  pub status_is : o.status ≡ status_code head
  pub reaches : Reaches (size_of head) o.stage [] []
  pub fits : Fits o.stage 0

-- what stands at the front of bytes
abbrev pub Looks : List ℕ → Look → Type 0
Looks b look.Open = (length b < MOST_HEAD) × IsOpenHead b
Looks b (look.Bad why) = IsFault b why 0
Looks b (look.Whole o) = IsOpening b o
