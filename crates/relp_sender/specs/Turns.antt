-- Where each turn comes, and what holds there.
use Rattle.std.specs.Prelude.{◌≡◌, ◌⊎◌, ◌↔◌, ℕ, ◌+◌, ◌-◌, ◌<◌, ◌≤◌, true, List, [], ◌∷◌, ◌++◌, length, Option, Some, None, Contains}
use Rattle.event_form.specs.declared.turn.Turn.{Turn}
use Rattle.event_form.specs.declared.turn.Turn.TheVariants.{Write, Confirmed, Also, Need, Wait, Pause, Done, Refused, PeerClosed, PeerFault, Unconfirmed}
use Rattle.event_form.specs.declared.talk.Why.TheVariants.{Reply}
use Rattle.event_form.specs.declared.event.Entry.{Entry}
use Rattle.event_form.specs.declared.event.Event.{Event}
use Rattle.relp_frame.specs.declared.fault.RelpFault.{RelpFault}
use Rattle.relp_frame.specs.Why.{why_of}
use Rattle.relp_sender.specs.declared.stage.Stop.TheVariants as stops
use Rattle.relp_sender.specs.declared.due.Due.{Due}
use Rattle.relp_sender.specs.declared.due.Due.TheVariants.{Stopped, Confirm, Tell, Send, Ask, End, Hear}
use Rattle.relp_sender.specs.declared.stage.Stage.TheVariants.{Open}
use Rattle.relp_sender.specs.declared.stage.Stop.{Stop}
use Rattle.relp_sender.specs.Progress.{IsKnown, known_by}
use Rattle.relp_sender.specs.Text.{IsSent, session_text}
use Rattle.relp_sender.specs.Texts.{event_text, IsTooLongWith}
use Rattle.relp_sender.specs.Window.{first_open}
use Rattle.relp_sender.specs.Sender.{Sender, HasTold, Needs, given}
use Rattle.relp_sender.specs.Due.{IsDue}
use Rattle.relp_sender.specs.Sends.{History}

-- the place of the entry that a turn tells by itself, the number of the first entry given
abbrev pub also_of : ℕ → Turn → List ℕ
also_of first (Also from to) = (from - first) ∷ []
also_of first turn = []

-- where each turn comes, of the sender after it
abbrev pub IsTurn : Turn → Sender → Type 0
IsTurn (Write text) s = (s.stop ≡ None) × HasTold s × (0 < length text)
IsTurn (Confirmed upto) s = (s.stop ≡ None) × (s.told ≡ first_open s.unanswered s.written) × (upto ≡ s.first + s.told)
IsTurn (Also from to) s = (s.stop ≡ None) × HasTold s × (s.first + s.told < from) × (to ≡ from + 1) × (from < s.first + given s)
IsTurn Need s = Needs s
IsTurn Wait s = IsDue Hear s × (s.reader.waiting ≡ []) × (s.reader.fault ≡ None)
IsTurn Pause s = ⊥
IsTurn Done s = IsDue End s
IsTurn (Refused unit code) s = s.stop ≡ Some (stops.Refused unit code)
IsTurn PeerClosed s = s.stop ≡ Some stops.Hint
IsTurn (PeerFault at why) s =
    ((s.stop ≡ Some (stops.BadReply at)) × (why ≡ Reply))
    ⊎ (IsDue Hear s × (s.reader.waiting ≡ []) × ((e : RelpFault) × (s.reader.fault ≡ Some e) × (at ≡ e.at) × (why ≡ why_of e.why)))
IsTurn (Unconfirmed asked) s = ⊥

-- no entry is left whose frame the text might have too: none waits, the window is full, or the text would be too long
abbrev pub NoneLeft : List ℕ → Sender → Type 0
NoneLeft text s = (s.waiting ≡ []) ⊎ ((length s.unanswered ≡ 1024) ⊎ IsTooLongWith text s.written s.waiting)

-- Frames are joined: in an open session a text has those of all entries that it may have, and one of more than 65,536 bytes
-- is one frame.
abbrev pub IsJoint : Turn → Sender → Type 0
IsJoint (Write text) s = s.stage ≡ Open → NoneLeft text s × ((length text ≤ 65536) ⊎ ((place : ℕ) × (e : Event) × (text ≡ event_text place e)))
IsJoint turn s = Unit {0}

-- how many of the first entries were told before a turn and after it
abbrev pub IsToldOn : Turn → ℕ → ℕ → Type 0
IsToldOn (Confirmed upto) before now = before < now
IsToldOn turn before now = now ≡ before

-- What a turn leaves as it is: what was given, and what the reader holds but for the frames that wait.
pub record Stays (old new : Sender) : Type 0 where
  pub finished : new.finished ≡ old.finished
  pub first : new.first ≡ old.first
  pub given : given new ≡ given old
  pub reader : new.reader ≡ record old.reader { waiting = new.reader.waiting }

-- the entries that were told, the first ones and those one by one, are those that the peer's frames acknowledge, and
-- the first ones are as many as can be
pub record TellsAll (h : History) (s : Sender) : Type 0 where
  pub front : s.told ≡ known_by h.progress
  pub all : (place : ℕ) → IsKnown h.progress place ↔ ((place < s.told) ⊎ Contains h.also place)

-- the entries that were told are acknowledged
abbrev pub TellsKnown : History → Sender → Type 0
TellsKnown h s = (place : ℕ) → (place < s.told) ⊎ Contains h.also place → IsKnown h.progress place

-- whatever entries follow, the text has the frame of each entry that was told
abbrev pub TellsSent : History → List Entry → Sender → Type 0
TellsSent h more s = (place : ℕ) → (place < s.told) ⊎ Contains h.also place → IsSent (h.entries ++ more) h.out place

-- the text is that of the entries given
abbrev pub IsWhole : History → Sender → Type 0
IsWhole h s = h.out ≡ session_text h.entries h.progress s.finished

-- the entries given are the first of a list, and all of it where no more come
abbrev pub IsFirstOf : Sender → List Entry → Type 0
IsFirstOf s more = s.finished ≡ true → more ≡ []

-- the text is that of the whole list, and no more is to be written whatever entries follow
abbrev pub IsWholeOf : History → List Entry → Type 0
IsWholeOf h more = h.out ≡ session_text (h.entries ++ more) h.progress true

-- the text begins that of the whole list
abbrev pub Begins : History → List Entry → Type 0
Begins h more = (rest : List ℕ) × (session_text (h.entries ++ more) h.progress true ≡ h.out ++ rest)

-- the ending that the peer made
abbrev pub ending_of : Stop → Turn
ending_of stops.Hint = PeerClosed
ending_of (stops.Refused unit code) = Refused unit code
ending_of (stops.BadReply at) = PeerFault at Reply

-- where no frame of the peer waits: the fault of its bytes, or more of them are wanted
abbrev pub IsUnheard : Option RelpFault → Turn → Type 0
IsUnheard None turn = turn ≡ Wait
IsUnheard (Some e) turn = turn ≡ PeerFault e.at (why_of e.why)

-- what is done where this is due, of a sender that wasn't asked for entries, and no frame is taken before
abbrev pub Acts : Due → Sender → Turn → Sender → Type 0
Acts Stopped old turn new = ((stop : Stop) → old.stop ≡ Some stop → turn ≡ ending_of stop) × (new ≡ old)
Acts Confirm old turn new = let front = first_open old.unanswered old.written in (turn ≡ Confirmed (old.first + front)) × (new ≡ record old { told = front })
Acts Tell old turn new =
    ((place : ℕ) → old.beyond ≡ Some place → turn ≡ Also (old.first + place) (old.first + place + 1)) × (new ≡ record old { beyond = None })
Acts Send old turn new = (text : List ℕ) × (turn ≡ Write text)
Acts Ask old turn new = (turn ≡ Need) × (new ≡ record old { asked = true })
Acts End old turn new = (turn ≡ Done) × (new ≡ old)
Acts Hear old turn new = IsUnheard old.reader.fault turn × (new ≡ old)

-- a frame of the peer is taken first
abbrev pub Hears : Sender → Type 0
Hears s = IsDue Hear s × (0 < length s.reader.waiting)
