-- What contracts see of a sender.
use Rattle.std.specs.Prelude.{◌≡◌, ◌⊎◌, ℕ, zero, suc, ◌+◌, ◌<◌, ◌≤◌, ◌^◌, Bool, true, false, List, [], ◌∷◌, ◌++◌, length, drop, Option, Some, None, All}
use Rattle.std.specs.List.{AllPairs}
use Rattle.event_form.specs.declared.event.Entry.{Entry}
use Rattle.event_form.specs.Event.{IsEvent}
use Rattle.relp_frame.specs.Reading.{Reader}
use Rattle.relp_sender.specs.declared.stage.Stage.{Stage}
use Rattle.relp_sender.specs.declared.stage.Stage.TheVariants.{Fresh, Opening, Open, Closed}
use Rattle.relp_sender.specs.declared.stage.Stop.{Stop}
use Rattle.relp_sender.specs.Window.{first_open}

-- Its reader, how far the session is, the entries given and not written, how many were written, the places of
-- those that are not answered, the number of the first entry, how many of the first entries were told as
-- acknowledged, the place of one after those that is acknowledged and wasn't told, whether no more come, whether
-- the last turn was Need, and why the session was ended by the peer.
pub record Sender : Type 0 where
  pub reader : Reader
  pub stage : Stage
  pub waiting : List Entry
  pub written : ℕ
  pub unanswered : List ℕ
  pub first : ℕ
  pub told : ℕ
  pub beyond : Option ℕ
  pub finished : Bool
  pub asked : Bool
  pub stop : Option Stop

-- how many entries were given
abbrev pub given : Sender → ℕ
given s = s.written + length s.waiting

-- so many places from one on
abbrev pub places_from : ℕ → ℕ → List ℕ
places_from place zero = []
places_from place (suc count) = place ∷ places_from (place + 1) count

-- the sender once the frames of so many of the entries that wait were written
abbrev pub wrote : ℕ → Sender → Sender
wrote count s = record s { waiting = drop count s.waiting; written = s.written + count; unanswered = s.unanswered ++ places_from s.written count }

-- all that is acknowledged was told
pub record HasTold (s : Sender) : Type 0 where
  pub front : s.told ≡ first_open s.unanswered s.written
  pub beyond : s.beyond ≡ None

-- a frame may be written: for an entry the window has room, and the session is closed once all are answered
abbrev pub MayWrite : Stage → Sender → Type 0
MayWrite Fresh s = 0 < length s.waiting
MayWrite Opening s = ⊥
MayWrite Open s = ((0 < length s.waiting) × (length s.unanswered < 1024)) ⊎ ((s.waiting ≡ []) × (s.finished ≡ true) × (s.unanswered ≡ []))
MayWrite Closed s = ⊥

-- more entries may be given: all that were given were written, more may come, and the window has room
abbrev pub MayAsk : Stage → Sender → Type 0
MayAsk Fresh s = (s.waiting ≡ []) × (s.finished ≡ false)
MayAsk Opening s = ⊥
MayAsk Open s = (s.waiting ≡ []) × (s.finished ≡ false) × (length s.unanswered < 1024)
MayAsk Closed s = ⊥

-- all was written, and no more comes
abbrev pub IsDone : Stage → Sender → Type 0
IsDone Fresh s = (s.waiting ≡ []) × (s.finished ≡ true)
IsDone Opening s = ⊥
IsDone Open s = ⊥
IsDone Closed s = Unit {0}

-- the peer's frames are waited for: the session isn't open, the window is full, or the last answers are due
abbrev pub MustHear : Stage → Sender → Type 0
MustHear Fresh s = ⊥
MustHear Opening s = Unit {0}
MustHear Open s = (length s.unanswered ≡ 1024) ⊎ ((s.waiting ≡ []) × (s.finished ≡ true) × (0 < length s.unanswered))
MustHear Closed s = ⊥

-- more entries are wanted: no ending came, all that is acknowledged was told, and more may be given
pub record Needs (s : Sender) : Type 0 where
  pub goes : s.stop ≡ None
  pub told : HasTold s
  pub may : MayAsk s.stage s

-- of a sender, what holds at every stage
abbrev pub KeepsAt : Stage → Sender → Type 0
KeepsAt Fresh s = (s.written ≡ 0) × (s.unanswered ≡ [])
KeepsAt Opening s = (s.written ≡ 0) × (s.unanswered ≡ []) × (0 < length s.waiting)
KeepsAt Open s = 0 < given s
KeepsAt Closed s = (s.waiting ≡ []) × (s.unanswered ≡ []) × (s.finished ≡ true) × (0 < s.written)

-- the place of an entry that is acknowledged after the first that isn't
pub record IsBeyond (s : Sender) (place : ℕ) : Type 0 where
  pub after : first_open s.unanswered s.written < place
  pub written : place < s.written

pub record Keeps (s : Sender) : Type 0 where
  pub few : length s.unanswered ≤ 1024
  pub below : All (λ (p : ℕ). p < s.written) s.unanswered
  pub order : AllPairs (λ (a b : ℕ). a < b) s.unanswered
  pub told : s.told ≤ first_open s.unanswered s.written
  pub beyond : (place : ℕ) → s.beyond ≡ Some place → IsBeyond s place
  pub number : s.first + given s ≤ 2 ^ 63
  pub events : All (λ (e : Entry). IsEvent e.event) s.waiting
  pub at : KeepsAt s.stage s
  pub need : s.asked ≡ true → Needs s
  pub ended : (stop : Stop) → s.stop ≡ Some stop → HasTold s × MustHear s.stage s

-- once the session is begun there is room for the places of a whole window
abbrev pub HasRoom : Stage → ℕ → Type 0
HasRoom Fresh room = Unit {0}
HasRoom Opening room = 1024 ≤ room
HasRoom Open room = 1024 ≤ room
HasRoom Closed room = 1024 ≤ room
