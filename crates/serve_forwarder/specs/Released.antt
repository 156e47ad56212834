-- What a forwarder may make known as confirmed, and when.
use Rattle.std.specs.Prelude.{ℕ, ◌<◌, List, length, Option}
use Rattle.desk_access.specs.Call.{Call, Record}
use Rattle.desk_access.specs.Desk.{DeskState}
use Rattle.forward_core.specs.Acknowledged as session
use Rattle.forward_core.specs.Acknowledged.{IsAcknowledged}
use Rattle.forward_core.specs.Exchanged.{IsNewAt}
use Rattle.forward_core.specs.Forwarded.{Asked, until_by}
use Rattle.forward_core.specs.Protocols.{EndsAs, settings_as}
use Rattle.forward_core.specs.declared.outward.Outward.{Outward}
use Rattle.desk_seats.specs.Passes.{Known}
use Rattle.desk_seats.specs.Ran.{Ran}
use Rattle.serve_forwarder.specs.declared.destination.Destination.{Destination}
use Rattle.serve_forwarder.specs.Sessions.{CallerOf, Saw}

-- A pass asked for the cursor and the end of the desk. Its session starts at the one, and ends at the other or before it.
abbrev pub HasAsked : (DeskState → Type 0) → Known → ℕ → ℕ → Known → Type 0
HasAsked start = Asked (Ran start) (λ known. known.cursor_known) (λ known. known.end_known) (Saw start)

-- A number may become known as confirmed once a pass has asked where its session starts and ends and made these calls since, these
-- bytes and this text were exchanged with the peer, and by them the peer has acknowledged the entry of that number. A session may be
-- given a number at which it ends before the desk's end. What the pass has seen then is a journal that was really made.
abbrev pub MayRelease : (List Record → Type 0) → (DeskState → Type 0) → Outward → (List ℕ → List ℕ → Type 0) → (ℕ → Type 0) → Type 0
MayRelease IsReal start outward Exchanged Release =
    (pass begun pass' : Known) (upto : Option ℕ) (first end : ℕ) (bytes : List ℕ) (calls : List Call) (text : List ℕ) (n : ℕ)
    → HasAsked start pass first end begun → Ran start begun calls pass' → 0 < length calls → IsReal pass'.seen → Exchanged bytes text
    → IsAcknowledged (EndsAs (settings_as outward) outward.proto) first (until_by upto end) bytes calls text n → Release n

-- A link: what may have become of it since, the place that was dialed, and the bytes that it has given and taken, where it tells them.
pub record LinkOf (L : Type 0) : Type 1 where
  pub same : L → L → Type 0
  pub dialed : L → Option (List ℕ)
  pub given : L → Option (List ℕ)
  pub taken : L → Option (List ℕ)

abbrev pub link_by : {L : Type 0} → (L → L → Type 0) → (L → Option (List ℕ)) → (L → Option (List ℕ)) → (L → Option (List ℕ)) → LinkOf L
link_by same dialed given taken = record { same = same; dialed = dialed; given = given; taken = taken }

-- The same for a caller that holds one session from now on: over each link that is dialed anew at the destination's place.
abbrev pub MayEarn : {A L : Type 0} → CallerOf A → LinkOf L → Destination → Option ℕ → A → (ℕ → Type 0) → Type 0
MayEarn {A} {L} caller over destination upto old Release =
    (link : L) → IsNewAt destination.place (over.dialed link) (over.given link) (over.taken link)
    → session.MayRelease upto caller.ran caller.cursor_known caller.end_known caller.seen old over.same over.given over.taken link
    (EndsAs (settings_as destination.outward) destination.outward.proto) Release
