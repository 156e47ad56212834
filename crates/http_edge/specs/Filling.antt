-- What a window's parts keep to, and how they are changed.
use Rattle.std.specs.Prelude.{◌≡◌, ℕ, ◌+◌, ◌-◌, ◌≤◌, ◌<◌, ◌^◌, List, [], ◌∷◌, ◌++◌, length, drop, slice_range, Option, Some, None, Result}
use Rattle.std.specs.Vec.{vec_capacity}
use Rattle.event_form.specs.declared.feed_fault.FeedFault.{FeedFault}
use Rattle.stream_grammar.specs.Feeding as feeding
use Rattle.http_edge.specs.declared.fault.HttpFault.{HttpFault}
use Rattle.http_edge.specs.declared.held.Held.{Held}
use Rattle.http_edge.specs.declared.left.Left.{Left}
use Rattle.http_edge.specs.declared.waiting.Waiting.{Waiting}
use Rattle.http_edge.specs.declared.waiting.Waiting.TheVariants.{Continue, Request}
use Rattle.http_edge.specs.declared.limits.TheConstants.{MOST_HEAD, ROOM}
use Rattle.http_edge.specs.Keeping.{moved}
use Rattle.http_edge.specs.Parts.{IsPart}
use Rattle.http_edge.specs.Past.{clear_at}
use Rattle.http_edge.specs.Reading.{Reading}
use Rattle.http_edge.specs.Scanning.{IsBegun}
use Rattle.http_edge.specs.Steps.{Fits}
use Rattle.http_edge.specs.Waits.{AreHeads, bodies_of, heads_of, items_in}
use Rattle.http_edge.specs.Window.{Window, Reads, fault_of}

-- what has been read of the stream
abbrev pub reading_of : Held → Reading
reading_of h = record {
  waiting = items_in h.queue.items (slice_range h.bytes.items h.from h.whole);
  at = h.at;
  begun = h.begun;
  stage = h.stage;
  body = drop h.whole h.bytes.items;
  read = h.read;
  unread = h.unread.items;
  fault = h.fault;
}

-- the same, where these bytes aren't read
abbrev pub reading_with : Held → List ℕ → Reading
reading_with h unread = record (reading_of h) { unread = unread }

abbrev pub window_with : Held → List ℕ → Window
window_with h unread = record { reading = reading_with h unread; heads = h.heads + h.size; beside = h.beside }

abbrev pub window_of : Held → Window
window_of h = record { reading = reading_of h; heads = h.heads + h.size; beside = h.beside }

-- how many bytes are counted
abbrev pub counted : Held → ℕ
counted h = h.heads + h.size - h.beside + (length h.bytes.items - h.from) + length h.unread.items

-- how many bytes the first head in line has, that of the unfinished request where nothing waits
abbrev pub first_head : List Waiting → ℕ → ℕ
first_head [] size = size
first_head (Continue ∷ q) size = first_head q 0
first_head (Request p ∷ q) size = p.size

-- how many bytes of a head are kept beside the window from now on
abbrev pub beside_after : List Waiting → ℕ → ℕ → ℕ
beside_after [] beside size = size
beside_after (w ∷ q) beside size = beside

-- nothing is held of a request at fault, nor is anything read of one whose head isn't whole
abbrev pub IsHeldOf : Option HttpFault → ℕ → List ℕ → Type 0
IsHeldOf None read unread = Unit {0}
IsHeldOf (Some e) read unread = (read ≡ 0) × (unread ≡ [])

-- The parts fit each other and the limits, where these bytes aren't read. The bodies of the requests that wait
-- stand between two places, and after them that of the unfinished request.
pub record FillsWith (h : Held) (unread : List ℕ) : Type 0 where
  pub space : ROOM ≤ vec_capacity h.bytes
  pub unread_space : MOST_HEAD ≤ vec_capacity h.unread
  pub order : h.from ≤ h.whole
  pub inside : h.whole ≤ length h.bytes.items
  pub bodies : h.from + bodies_of h.queue.items ≡ h.whole
  pub heads_are : h.heads ≡ heads_of h.queue.items
  pub are_heads : AreHeads h.queue.items
  pub begun_is : IsBegun h.begun h.size
  pub first : h.beside ≤ first_head h.queue.items h.size
  pub alone : h.queue.items ≡ [] → h.beside ≡ h.size
  pub bound : h.heads + h.size + (length h.bytes.items - h.from) + length unread ≤ ROOM + h.beside
  pub fits : Fits h.stage (length h.bytes.items - h.whole)
  pub short : length unread < MOST_HEAD
  pub room : h.at + h.read + length unread ≤ 2 ^ 40
  pub head : h.begun ≡ None → IsPart h.part unread
  pub none : h.begun ≡ None → (h.whole ≡ length h.bytes.items) × (h.read ≡ 0)
  pub broken : IsHeldOf h.fault h.read unread

abbrev pub Fills : Held → Type 0
Fills h = FillsWith h h.unread.items

-- the bytes of what was given are gone
pub record IsPacked (old new : Held) : Type 0 where
  pub bytes_are : new.bytes.items ≡ drop old.from old.bytes.items
  pub same : new ≡ record old { bytes = new.bytes; from = 0; whole = old.whole - old.from }

-- what is left after requests has been taken over
pub record Settles (old : Held) (base : ℕ) (more : List ℕ) (l : Left) (new : Held) : Type 0 where
  pub queue_is : new.queue.items ≡ old.queue.items
  pub heads_are : new.heads ≡ old.heads
  pub beside_is : new.beside ≡ beside_after old.queue.items old.beside l.size
  pub bytes_are : new.bytes.items ≡ old.bytes.items
  pub bytes_space : vec_capacity new.bytes ≡ vec_capacity old.bytes
  pub from_is : new.from ≡ old.from
  pub whole_is : new.whole ≡ length old.bytes.items - l.body
  pub at_is : new.at ≡ base + l.from
  pub begun_is : new.begun ≡ l.begun
  pub size_is : new.size ≡ l.size
  pub stage_is : new.stage ≡ l.stage
  pub read_is : new.read ≡ l.read
  pub unread_is : new.unread.items ≡ drop (length more - l.rest) more
  pub space : MOST_HEAD ≤ vec_capacity new.unread
  pub head : new.begun ≡ None → IsPart new.part new.unread.items
  pub fault_is : new.fault ≡ moved base l.fault

-- what a window has read after a piece
abbrev pub FeedsTo : Window → List ℕ → Result (Unit {0}) (FeedFault HttpFault) → Window → Type 0
FeedsTo = feeding.Feeds Reads fault_of

-- what is held after a piece, where these bytes weren't read
pub record FeedsWith (old : Held) (unread piece : List ℕ) (r : Result (Unit {0}) (FeedFault HttpFault)) (new : Held) : Type 0 where
  pub fills : Fills new
  pub feeds : FeedsTo (window_with old unread) piece r (window_of new)
  pub room : new.at + new.read + length new.unread.items ≤ old.at + old.read + length unread + length piece

abbrev pub FeedsHeld : Held → List ℕ → Result (Unit {0}) (FeedFault HttpFault) → Held → Type 0
FeedsHeld old piece r new = FeedsWith old old.unread.items piece r new

-- the same, where these are the bytes that weren't read and the piece
abbrev pub FeedsAfter : Held → List ℕ → List ℕ → Result (Unit {0}) (FeedFault HttpFault) → Held → Type 0
FeedsAfter old unread all r new = (piece : List ℕ) → all ≡ unread ++ piece → FeedsWith old unread piece r new

-- nothing of a request is held any more, where nothing waited
pub record IsEmptied (old new : Held) : Type 0 where
  pub reading_is : reading_of new ≡ clear_at old.at
  pub none : counted new ≡ 0
