-- How what is left after requests is taken over.
use Rattle.std.specs.Prelude.{◌≡◌, ℕ, ◌+◌, List, ◌++◌, Option, Some, None, Result, Ok, Err}
use Rattle.event_form.specs.declared.feed_fault.FeedFault.{FeedFault}
use Rattle.event_form.specs.declared.feed_fault.FeedFault.TheVariants.{Fault}
use Rattle.http_edge.specs.declared.fault.HttpFault.{HttpFault}
use Rattle.http_edge.specs.Reading.{Reading, Feeds}

-- a fault so many bytes further on
abbrev pub moved : ℕ → Option HttpFault → Option HttpFault
moved n None = None
moved n (Some e) = Some (record { at = n + e.at; why = e.why })

-- what is answered of a fault
abbrev pub answer : Option HttpFault → Result (Unit {0}) (FeedFault HttpFault)
answer None = Ok tt
answer (Some e) = Err (Fault e)

-- what a call leaves that reads all bytes not read before and a piece after them
abbrev pub FeedsAll : Reading → List ℕ → Result (Unit {0}) (FeedFault HttpFault) → Reading → Type 0
FeedsAll old all r new = (piece : List ℕ) → all ≡ old.unread ++ piece → Feeds old piece r new
