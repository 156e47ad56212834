-- What a sender does next, and where each turn comes.
use Rattle.std.specs.Prelude.{◌≡◌, ◌⊎◌, ℕ, ◌+◌, ◌<◌, List, [], ◌++◌, length, Some, None}
use Rattle.event_form.specs.declared.event.Entry.{Entry}
use Rattle.event_form.specs.declared.talk.Why.TheVariants as why
use Rattle.lumber_frame.specs.declared.fault.LumberFault.{LumberFault}
use Rattle.lumber_frame.specs.Why.{why_of}
use Rattle.lumber_sender.specs.declared.due.Due.TheVariants as due
use Rattle.event_form.specs.declared.turn.Turn.{Turn}
use Rattle.event_form.specs.declared.turn.Turn.TheVariants.{Write, Confirmed, Also, Need, Wait, Pause, Done, Refused, PeerClosed, PeerFault, Unconfirmed}
use Rattle.lumber_sender.specs.Progress.{session_text, known_by}
use Rattle.lumber_sender.specs.Sender.{Sender, known, Needs, IsDone, IsDue}
use Rattle.lumber_sender.specs.Sends.{History}
use Rattle.lumber_sender.specs.Windows.{IsPart, IsSent}

-- of the sender after a turn
abbrev pub IsTurn : Turn → Sender → Type 0
IsTurn (Write text) s = (0 < length text) × (s.stop ≡ None) × (s.told ≡ known s)
IsTurn (Confirmed upto) s = (s.stop ≡ None) × (s.told ≡ known s) × (upto ≡ s.first + s.told)
IsTurn (Also from to) s = ⊥
IsTurn Need s = Needs s
IsTurn Wait s = IsDue due.Hear s × (s.reader.waiting ≡ []) × (s.reader.fault ≡ None)
IsTurn Pause s = ⊥
IsTurn Done s = IsDone s
IsTurn (Refused unit code) s = ⊥
IsTurn PeerClosed s = ⊥
IsTurn (PeerFault at w) s =
    ((s.stop ≡ Some at) × (w ≡ why.Reply))
    ⊎ (IsDue due.Hear s × (s.reader.waiting ≡ []) × ((e : LumberFault) × (s.reader.fault ≡ Some e) × (at ≡ e.at) × (w ≡ why_of e.why)))
IsTurn (Unconfirmed asked) s = ⊥

-- Of the sender before a turn: what decides the turn at once, without a frame of the receiver.
pub record IsFor (s : Sender) (turn : Turn) : Type 0 where
  pub stopped : (at : ℕ) → s.stop ≡ Some at → turn ≡ PeerFault at why.Reply
  pub confirms : IsDue due.Confirm s → turn ≡ Confirmed (s.first + known s)
  pub writes : s.written < length s.batch → (text : List ℕ) × (turn ≡ Write text)
  pub asks : Needs s → turn ≡ Need
  pub ends : IsDone s → turn ≡ Done
  pub waits : IsDue due.Hear s → s.reader.waiting ≡ [] → s.reader.fault ≡ None → turn ≡ Wait
  pub faults : (e : LumberFault) → IsDue due.Hear s → s.reader.waiting ≡ [] → s.reader.fault ≡ Some e → turn ≡ PeerFault e.at (why_of e.why)

-- what a turn writes is the next text of the window under way
abbrev pub IsWritten : Turn → Sender → Sender → Type 0
IsWritten (Write text) old new = (new.batch ≡ old.batch) × IsPart old.batch old.written new.written text
IsWritten turn old new = Unit {0}

-- how many entries were reported as acknowledged before a turn and after it
abbrev pub IsTold : Turn → ℕ → ℕ → Type 0
IsTold (Confirmed upto) before now = before < now
IsTold turn before now = now ≡ before

-- how many entries were written and how many were reported, together: it is at most twice as many as were given
abbrev pub spent : Sender → ℕ
spent s = s.done + s.written + s.told

-- a text and a report make it greater, and nothing else changes it
abbrev pub IsSpent : Turn → ℕ → ℕ → Type 0
IsSpent (Write text) before now = before < now
IsSpent (Confirmed upto) before now = before < now
IsSpent turn before now = now ≡ before

-- what is reported as acknowledged is what the receiver's frames acknowledge
abbrev pub TellsAll : History → Sender → Type 0
TellsAll h s = s.told ≡ known_by h.progress

-- where these entries follow, the text has the window of each entry that was reported as acknowledged
abbrev pub TellsSent : History → List Entry → Sender → Type 0
TellsSent h more s = (place : ℕ) → place < s.told → IsSent (h.entries ++ more) h.out place

-- the text is that of the entries given
abbrev pub IsWhole : History → Type 0
IsWhole h = h.out ≡ session_text h.entries h.progress

-- the text is that of the whole list
abbrev pub IsWholeOf : History → List Entry → Type 0
IsWholeOf h more = h.out ≡ session_text (h.entries ++ more) h.progress

-- the text begins that of the whole list
abbrev pub Begins : History → List Entry → Type 0
Begins h more = (rest : List ℕ) × (session_text (h.entries ++ more) h.progress ≡ h.out ++ rest)
