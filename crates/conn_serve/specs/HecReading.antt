-- What a session of the collector has read, where the body of a request that is refused anyway is read past.
use Rattle.std.specs.Prelude.{◌≡◌, ◌↔◌, ℕ, ◌+◌, ◌<◌, Bool, true, false, IsNone, IfSome, List, [], length, take, Option, Some, None, Result, Ok, Err, if◌then◌else◌}
use Rattle.event_form.specs.declared.feed_fault.FeedFault.{FeedFault}
use Rattle.event_form.specs.declared.feed_fault.FeedFault.TheVariants as feed
use Rattle.http_edge.specs.declared.fault.HttpFault.{HttpFault}
use Rattle.http_edge.specs.declared.past.Past.{Past}
use Rattle.http_edge.specs.declared.request.HttpItem.{HttpItem}
use Rattle.http_edge.specs.Fields.{closes}
use Rattle.http_edge.specs.Lending.{GivesItem}
use Rattle.http_edge.specs.Past.{clear_at, come_to, ended_at, read_past}
use Rattle.http_edge.specs.Reading.{Reading, come}
use Rattle.http_edge.specs.Waits.{with_body}
use Rattle.http_edge.specs.Window.{Window, Reads, ReadsOn, held_of}
use Rattle.hec_session.specs.Acts.{IsRefusal}
use Rattle.hec_session.specs.Codes.{IsReply}
use Rattle.hec_session.specs.declared.tokens.Tokens.{Tokens}
use Rattle.conn_serve.specs.declared.hec.asked.Asked.{Asked}
use Rattle.conn_serve.specs.declared.hec.intake.Intake.{Intake}
use Rattle.conn_serve.specs.declared.hec.intake.Refused.{Refused}
use Rattle.conn_serve.specs.HecServing.{IsAsked, ReadsBy}

-- a window that has read this, and of which no more is said
abbrev pub window_at : Reading → Window
window_at r = record { reading = r; heads = 0; beside = 0 }

-- nothing is held of any request
abbrev pub IsClear : Window → Type 0
IsClear w = (w.reading ≡ clear_at w.reading.at) × (held_of w ≡ 0)

-- What a window would hold that had kept the body which was read past, were it this.
abbrev pub HoldsBody : Bool → Window → Past → List ℕ → Window → Type 0
HoldsBody false w p body v = (length body ≡ p.held) × (v ≡ window_at (read_past p body))
HoldsBody true w p body v = v ≡ window_at (ended_at w.reading.at p.head body)

-- What a window would hold that had kept each body.
abbrev pub IsKept : Window → Option Refused → Window → Type 0
IsKept w None v = v ≡ w
IsKept w (Some x) v = (body : List ℕ) × HoldsBody x.ended w x.past body v

-- A request whose body is read past is refused so, whatever that is, and is the only one of which anything is held.
pub record IsRefused (tokens : Tokens) (w : Window) (x : Refused) : Type 0 where
  pub refused : IsRefusal tokens x.past.head x.reply
  pub reply : IsReply x.reply
  pub closing : (body : List ℕ) → x.closing ≡ closes (with_body x.past.head body)
  pub clear : IsClear w

abbrev pub IsSound : Tokens → Window → Option Refused → Type 0
IsSound tokens w None = Unit {0}
IsSound tokens w (Some x) = IsRefused tokens w x

-- The items were read, as by a window that had kept each body.
pub record ReadsKept (tokens : Tokens) (i : Intake) (met : Option (FeedFault HttpFault)) (b : List ℕ) (items : List HttpItem) : Type 0 where
  pub sound : IsSound tokens i.window i.refused
  pub kept : Window
  pub is_kept : IsKept i.window i.refused kept
  pub reads : ReadsBy kept met b items

-- no request waits for its answer that was read past, and of one that is, nothing is held in the window
abbrev pub IsOpen : Window → Option Refused → Type 0
IsOpen w None = Unit {0}
IsOpen w (Some x) = (x.ended ≡ false) × IsClear w

-- no item waits, there is room for more bytes, and memory was found so far
pub record IsIdle (i : Intake) (met : Option (FeedFault HttpFault)) : Type 0 where
  pub none : i.window.reading.waiting ≡ []
  pub space : held_of i.window < 1064960
  pub going : IsOpen i.window i.refused
  pub found : met ≡ Some feed.NoMemory → ⊥

-- how far the bytes have come
abbrev pub reached_by : Window → Option Refused → ℕ
reached_by w None = w.reading.at + come w.reading
reached_by w (Some x) = if x.ended then w.reading.at + come w.reading else come_to x.past

abbrev pub extent_of : Intake → ℕ
extent_of i = reached_by i.window i.refused

-- how many items wait
abbrev pub waiting_in : Window → Option Refused → ℕ
waiting_in w None = length w.reading.waiting
waiting_in w (Some x) = if x.ended then length w.reading.waiting + 1 else length w.reading.waiting

abbrev pub waits_of : Intake → ℕ
waits_of i = waiting_in i.window i.refused

-- what a window that had kept each body would have read of a piece, of which that many bytes were taken, or that has a fault
abbrev pub FeedsAs : Window → List ℕ → Result ℕ (FeedFault HttpFault) → Window → Type 0
FeedsAs v piece (Ok n) v' = (v.reading.fault ≡ None) × (v'.reading.fault ≡ None) × ReadsOn v (take n piece) v'
FeedsAs v piece (Err (feed.Fault e)) v' = (v'.reading.fault ≡ Some e) × ReadsOn v piece v'
FeedsAs v piece (Err feed.NoMemory) v' = (v' ≡ v) × (v.reading.fault ≡ None)

-- so it is of this window that would be, and of one that would be afterwards
pub record FeedsOne (tokens : Tokens) (v : Window) (piece : List ℕ) (r : Result ℕ (FeedFault HttpFault)) (new : Intake) : Type 0 where
  pub after : Window
  pub sound : IsSound tokens new.window new.refused
  pub is_kept : IsKept new.window new.refused after
  pub feeds : FeedsAs v piece r after

-- and of each that would be, whatever the bodies that weren't kept
abbrev pub FeedsKept : Intake → List ℕ → Result ℕ (FeedFault HttpFault) → Intake → Type 0
FeedsKept old piece r new =
    (tokens : Tokens) (v : Window) → IsSound tokens old.window old.refused → IsKept old.window old.refused v → FeedsOne tokens v piece r new

-- of the window that would be, the next item is given, which asks for this, and no longer waits
pub record GivesOne (tokens : Tokens) (v : Window) (asked : Asked) (new : Intake) : Type 0 where
  pub item : HttpItem
  pub after : Window
  pub sound : IsSound tokens new.window new.refused
  pub is_kept : IsKept new.window new.refused after
  pub gives : GivesItem v item after
  pub asks : IsAsked tokens item asked

-- what was read stays so
pub record StaysRead (tokens : Tokens) (v : Window) (new : Intake) : Type 0 where
  pub after : Window
  pub sound : IsSound tokens new.window new.refused
  pub is_kept : IsKept new.window new.refused after
  pub same : after.reading ≡ v.reading

-- the next item is given, whatever the bodies that weren't kept; or none waits, and what was read stays so
abbrev pub GivesKept : Tokens → Intake → Option Asked → Intake → Type 0
GivesKept tokens old None new = (v : Window) → IsKept old.window old.refused v → StaysRead tokens v new
GivesKept tokens old (Some asked) new = (v : Window) → IsKept old.window old.refused v → GivesOne tokens v asked new

-- some bytes came to what the window holds
abbrev pub WasRead : Window → Option Refused → Type 0
WasRead w None = (b : List ℕ) × (items : List HttpItem) × Reads b items w
WasRead w (Some x) = Unit {0}

-- once none waits
pub record IsLeft (i : Intake) : Type 0 where
  pub none : i.window.reading.waiting ≡ []
  pub space : held_of i.window < 1064960
  pub going : IsOpen i.window i.refused

-- where the unfinished request begins, if the bytes don't end at a request's end
abbrev pub TellsRest : Window → Option Refused → Option ℕ → Type 0
TellsRest w None r = (IsNone r ↔ ((come w.reading ≡ 0) × (w.reading.fault ≡ None))) × IfSome r (λ at. at ≡ w.reading.at)
TellsRest w (Some x) r = r ≡ Some x.past.at
