-- What is due of a sender, and the text that it writes next.
use Rattle.std.specs.Prelude.{◌≡◌, ◌⊎◌, ℕ, ◌+◌, ◌<◌, ◌≤◌, Bool, true, List, [], ◌∷◌, length, take, drop, Some, None, IsSome, slice_index}
use Rattle.std.specs.List.{remove}
use Rattle.std.specs.VecDeque.{deque_capacity}
use Rattle.event_form.specs.declared.event.Entry.{Entry}
use Rattle.relp_frame.specs.declared.frame.Placed.{Placed}
use Rattle.relp_frame.specs.Reading.{Reader}
use Rattle.relp_sender.specs.declared.stage.Stage.TheVariants.{Fresh, Opening, Open}
use Rattle.relp_sender.specs.declared.hearing.Heard.{Heard}
use Rattle.relp_sender.specs.declared.hearing.Heard.TheVariants.{Ignored, Opens, Acknowledged}
use Rattle.relp_sender.specs.declared.due.Due.{Due}
use Rattle.relp_sender.specs.declared.due.Due.TheVariants.{Stopped, Confirm, Tell, Send, Ask, End, Hear}
use Rattle.relp_sender.specs.declared.next.Next.{Next}
use Rattle.relp_sender.specs.declared.next.Next.TheVariants as next
use Rattle.relp_sender.specs.Hearing.{IsHeard}
use Rattle.relp_sender.specs.Texts.{open_text, frames_text, close_text, IsTooLongWith}
use Rattle.relp_sender.specs.Window.{first_open, beyond_of}
use Rattle.relp_sender.specs.Sender.{Sender, HasTold, MayWrite, IsDone, MustHear, Needs}

-- what is due; at most one row holds
abbrev pub IsDue : Due → Sender → Type 0
IsDue Stopped s = IsSome s.stop
IsDue Confirm s = (s.stop ≡ None) × (s.told < first_open s.unanswered s.written)
IsDue Tell s = (s.stop ≡ None) × (s.told ≡ first_open s.unanswered s.written) × IsSome s.beyond
IsDue Send s = (s.stop ≡ None) × HasTold s × MayWrite s.stage s
IsDue Ask s = Needs s
IsDue End s = (s.stop ≡ None) × HasTold s × IsDone s.stage s
IsDue Hear s = (s.stop ≡ None) × HasTold s × MustHear s.stage s

-- Of the entries that wait, of which the first stands at a place, one text has the frames of so many: of all for which the window
-- has room beside so many unanswered ones, unless it would have more than 65,536 bytes, which one frame alone may have.
pub record IsJoined (waiting : List Entry) (place unanswered count : ℕ) (text : List ℕ) : Type 0 where
  pub some : 0 < count
  pub within : count ≤ length waiting
  pub room : unanswered + count ≤ 1024
  pub is : text ≡ frames_text place (take count waiting)
  pub bound : (count ≡ 1) ⊎ (length text ≤ 65536)
  pub all : (count ≡ length waiting) ⊎ ((unanswered + count ≡ 1024) ⊎ IsTooLongWith text (place + count) (drop count waiting))

-- the next text
abbrev pub IsNext : Sender → Next → Type 0
IsNext s next.Nothing = ⊥
IsNext s (next.Open text places) = (s.stage ≡ Fresh) × (text ≡ open_text) × (0 < length text) × (places.items ≡ []) × (1024 ≤ deque_capacity places)
IsNext s (next.Frames joined) = ((s.stage ≡ Opening) ⊎ (s.stage ≡ Open)) × IsJoined s.waiting s.written (length s.unanswered) joined.count joined.text × (0 < length joined.text)
IsNext s (next.Close text) = (s.stage ≡ Open) × (s.waiting ≡ []) × (text ≡ close_text s.written) × (0 < length text)

-- it is the next text where one is due, and where the answer to the first frame may make one due
abbrev pub Suits : Sender → Next → Type 0
Suits s n = IsDue Send s ⊎ (s.stage ≡ Opening) → IsNext s n

-- it acknowledges a frame that was written
abbrev pub IsAcknowledgment : Heard → Type 0
IsAcknowledgment (Acknowledged index) = Unit {0}
IsAcknowledgment heard = ⊥

-- What the next of the peer's frames does may be done: to hear it is due; or some were heard in this turn, all in order, and
-- it acknowledges a frame more.
abbrev pub MayHear : Bool → Sender → Heard → Type 0
MayHear goes_on s heard = IsDue Hear s ⊎ ((goes_on ≡ true) × IsDue Confirm s × (s.beyond ≡ None) × IsAcknowledgment heard)

-- The next of the peer's frames does this, and that may be done.
pub record HearsNext (goes_on : Bool) (s : Sender) (heard : Heard) : Type 0 where
  pub placed : Placed
  pub rest : List Placed
  pub waits : s.reader.waiting ≡ placed ∷ rest
  pub is : IsHeard s.stage s.unanswered placed.at placed.frame heard
  pub may : MayHear goes_on s heard

-- what a frame of the peer leaves
abbrev pub heard : Sender → Reader → Heard → Sender
heard s r Ignored = record s { reader = r }
heard s r Opens = record s { reader = r; stage = Open }
heard s r (Acknowledged index) = record s { reader = r; unanswered = remove s.unanswered index; beyond = beyond_of index (slice_index s.unanswered index) }
heard s r (Heard.Stopped stop) = record s { reader = r; stop = Some stop }
