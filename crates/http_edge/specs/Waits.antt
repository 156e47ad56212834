-- What waits in a window.
use Rattle.std.specs.Prelude.{◌≡◌, ℕ, ◌+◌, ◌≤◌, Bool, List, [], ◌∷◌, length, take, drop, if◌then◌else◌}
use Rattle.httparse.specs.Grammar.{RequestHead, print_request}
use Rattle.http_edge.specs.declared.head.Head.{Head}
use Rattle.http_edge.specs.declared.request.HttpItem.{HttpItem}
use Rattle.http_edge.specs.declared.request.HttpItem.TheVariants as item
use Rattle.http_edge.specs.declared.request.HttpRequest.{HttpRequest}
use Rattle.http_edge.specs.declared.waiting.Waiting.{Waiting}
use Rattle.http_edge.specs.declared.waiting.Waiting.TheVariants.{Continue, Request}
use Rattle.http_edge.specs.declared.limits.TheConstants.{MOST_HEAD}
use Rattle.http_edge.specs.Reading.{head_of}

-- the request of a head and a body
abbrev pub with_body : Head → List ℕ → HttpRequest
with_body head body = record { method = head.method; target = head.target; minor = head.minor; fields = head.fields; body = body }

-- a head of so many bytes, of which there are at most 16,384, has these parts
abbrev pub IsHead : Head → ℕ → Type 0
IsHead head size = (h : RequestHead) × (head ≡ head_of h) × (size ≡ length (print_request h)) × (size ≤ MOST_HEAD)

-- the item Continue, where it is told
abbrev pub told_if : Bool → List Waiting
told_if b = if b then Continue ∷ [] else []

-- the items that wait, the bodies of whose requests are these bytes, one after another
abbrev pub items_in : List Waiting → List ℕ → List HttpItem
items_in [] b = []
items_in (Continue ∷ q) b = item.Continue ∷ items_in q b
items_in (Request p ∷ q) b = item.Request (with_body p.head (take p.body b)) ∷ items_in q (drop p.body b)

-- how many bytes their bodies have
abbrev pub bodies_of : List Waiting → ℕ
bodies_of [] = 0
bodies_of (Continue ∷ q) = bodies_of q
bodies_of (Request p ∷ q) = p.body + bodies_of q

-- how many bytes their heads have
abbrev pub heads_of : List Waiting → ℕ
heads_of [] = 0
heads_of (Continue ∷ q) = heads_of q
heads_of (Request p ∷ q) = p.size + heads_of q

-- so many bytes each head has
abbrev pub AreHeads : List Waiting → Type 0
AreHeads [] = Unit {0}
AreHeads (Continue ∷ q) = AreHeads q
AreHeads (Request p ∷ q) = IsHead p.head p.size × AreHeads q
