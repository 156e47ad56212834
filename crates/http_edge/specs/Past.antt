-- A request whose body is read past: its bytes are judged, counted and not kept.
use Rattle.std.specs.Prelude.{◌≡◌, ℕ, ◌+◌, ◌<◌, ◌≤◌, ◌^◌, List, [], ◌∷◌, ◌++◌, length, take, Some, None}
use Rattle.http_edge.specs.declared.fault.HttpFault.{HttpFault}
use Rattle.http_edge.specs.declared.head.Head.{Head}
use Rattle.http_edge.specs.declared.past.Past.{Past}
use Rattle.http_edge.specs.declared.past.Way.{Way}
use Rattle.http_edge.specs.declared.past.Way.TheVariants.{Open, Whole, Bad}
use Rattle.http_edge.specs.declared.request.HttpItem.{HttpItem}
use Rattle.http_edge.specs.declared.request.HttpItem.TheVariants.{Request}
use Rattle.http_edge.specs.declared.limits.TheConstants.{MOST_HEAD}
use Rattle.http_edge.specs.Reading.{Reading, Reads, ReadsOn, unfed}
use Rattle.http_edge.specs.Steps.{Fits}
use Rattle.http_edge.specs.Waits.{with_body}

-- what has been read of the stream, if this is the body so far
abbrev pub read_past : Past → List ℕ → Reading
read_past p body = record { waiting = []; at = p.at; begun = Some p.head; stage = p.stage; body = body; read = p.read; unread = p.unread.items; fault = None }

-- nothing of a request has been read, from this offset on
abbrev pub clear_at : ℕ → Reading
clear_at at = record unfed { at = at }

-- the request with this body waits, and ends at this offset
abbrev pub ended_at : ℕ → Head → List ℕ → Reading
ended_at at head body = record unfed { waiting = Request (with_body head body) ∷ []; at = at }

-- the request at this offset has a fault
abbrev pub faulty_at : ℕ → HttpFault → Reading
faulty_at at e = record unfed { at = at; fault = Some e }

-- some bytes came to this, with a body of so many bytes
pub record IsReached (p : Past) : Type 0 where
  pub fed : List ℕ
  pub given : List HttpItem
  pub body : List ℕ
  pub long : length body ≡ p.held
  pub reads : Reads fed given (read_past p body)

-- the parts fit each other and the limits
pub record IsPast (p : Past) : Type 0 where
  pub fits : Fits p.stage p.held
  pub short : length p.unread.items < MOST_HEAD
  pub room : p.at + p.read + length p.unread.items ≤ 2 ^ 40
  pub reached : IsReached p

-- how many bytes of the stream have come, up to its last one
abbrev pub come_to : Past → ℕ
come_to p = p.at + p.read + length p.unread.items

-- Whatever the body so far, what was read before and a piece after it come to this. Where more is due, the body has grown
-- by some bytes, which the piece alone determines; where the request ends, it waits with such a body.
abbrev pub Passes : Past → List ℕ → Way → Past → Type 0
Passes old piece Open new =
    (got : List ℕ) × (new.head ≡ old.head) × (new.at ≡ old.at) × (new.held ≡ old.held + length got) × (come_to new ≡ come_to old + length piece)
    × ((body : List ℕ) → length body ≡ old.held → ReadsOn (read_past old body) piece (read_past new (body ++ got)))
Passes old piece (Whole used end) new =
    (new ≡ old) × (0 < used) × (used ≤ length piece) × (end ≡ come_to old + used)
    × ((got : List ℕ) × ((body : List ℕ) → length body ≡ old.held → ReadsOn (read_past old body) (take used piece) (ended_at end old.head (body ++ got))))
Passes old piece (Bad e) new =
    (new ≡ old) × ((body : List ℕ) → length body ≡ old.held → ReadsOn (read_past old body) piece (faulty_at old.at e))

-- the same, where these are the bytes that weren't read and the piece
abbrev pub PassesAfter : Past → List ℕ → Way → Past → Type 0
PassesAfter old all way new = (piece : List ℕ) → all ≡ old.unread.items ++ piece → Passes old piece way new

-- what was read of an unfinished request is what is read past from now on
abbrev pub Becomes : Reading → Past → Type 0
Becomes r p = (read_past p r.body ≡ r) × (p.held ≡ length r.body)
