-- What a reader's fields keep to, and how they are changed.
use Rattle.std.specs.Prelude.{◌≡◌, ℕ, ◌+◌, ◌≤◌, ◌<◌, ◌^◌, List, ◌++◌, length, Option, Some, None, Result, Ok, Err}
use Rattle.event_form.specs.declared.feed_fault.FeedFault.{FeedFault}
use Rattle.event_form.specs.declared.feed_fault.FeedFault.TheVariants.{Fault}
use Rattle.http_edge.specs.declared.fault.HttpFault.{HttpFault}
use Rattle.http_edge.specs.declared.limits.TheConstants.{MOST_HEAD}
use Rattle.http_edge.specs.declared.stage.Stage.{Stage}
use Rattle.http_edge.specs.Steps.{Fits}
use Rattle.http_reply.specs.declared.left.Left.{Left}
use Rattle.http_reply.specs.declared.part.HeadPart.{HeadPart}
use Rattle.http_reply.specs.Parts.{IsPart}
use Rattle.http_reply.specs.Reading.{Reading, Feeds}

-- The body so far and what is due of it keep the limits; fewer than 16,384 bytes aren't read yet; and
-- offsets stay within 2^40.
pub record Keeps (at : ℕ) (stage : Stage) (body : List ℕ) (read : ℕ) (unread : List ℕ) : Type 0 where
  pub room : at + read + length unread ≤ 2 ^ 40
  pub fits : Fits stage (length body)
  pub short : length unread < MOST_HEAD

-- where no head is whole, the bytes that aren't read are so far read of one
abbrev pub HoldsPart : Option ℕ → HeadPart → List ℕ → Type 0
HoldsPart begun part unread = begun ≡ None → IsPart part unread

-- the same of what is left after replies from an offset on
pub record KeepsLeft (base : ℕ) (l : Left) : Type 0 where
  pub keeps : Keeps (base + l.from) l.stage l.body.items l.read l.unread.items
  pub base_fits : base ≤ 2 ^ 40

-- the reader that has taken over what is left
abbrev pub settled : Reading → ℕ → Left → Reading
settled r base l = record {
  waiting = r.waiting;
  at = base + l.from;
  begun = l.begun;
  stage = l.stage;
  body = l.body.items;
  read = l.read;
  unread = l.unread.items;
  fault = l.fault;
}

-- what is answered of a fault
abbrev pub answer : Option HttpFault → Result (Unit {0}) (FeedFault HttpFault)
answer None = Ok tt
answer (Some e) = Err (Fault e)

-- what a call leaves that reads all bytes not read before and a piece after them
abbrev pub FeedsAll : Reading → List ℕ → Result (Unit {0}) (FeedFault HttpFault) → Reading → Type 0
FeedsAll old all r new = (piece : List ℕ) → all ≡ old.unread ++ piece → Feeds old piece r new
