-- What a sender does next, and where each turn comes.
use Rattle.std.specs.Prelude.{◌≡◌, ◌⊎◌, ◌↔◌, ℕ, ◌+◌, ◌-◌, ◌*◌, ◌<◌, nat_lt, if◌then◌else◌, true, Option, List, [], ◌++◌, length, Some, None}
use Rattle.event_form.specs.declared.event.Entry.{Entry}
use Rattle.event_form.specs.declared.talk.Why.TheVariants as why
use Rattle.event_form.specs.declared.turn.Turn.{Turn}
use Rattle.event_form.specs.declared.turn.Turn.TheVariants.{Write, Confirmed, Also, Need, Wait, Pause, Done, Refused, PeerClosed, PeerFault, Unconfirmed}
use Rattle.event_form.specs.Turn.{text_of}
use Rattle.http_edge.specs.declared.fault.HttpFault.{HttpFault}
use Rattle.http_edge.specs.Why.{why_of}
use Rattle.hec_sender.specs.declared.due.Due.TheVariants as due
use Rattle.hec_sender.specs.declared.query.Query.{Query}
use Rattle.hec_sender.specs.declared.stage.Stage.{Stage}
use Rattle.hec_sender.specs.declared.stage.Stage.TheVariants as stage
use Rattle.hec_sender.specs.declared.stop.Stop.{Stop}
use Rattle.hec_sender.specs.declared.stop.Stop.TheVariants as stop
use Rattle.hec_sender.specs.declared.terms.Terms.{Terms}
use Rattle.hec_sender.specs.declared.verdict.Verdict.{Verdict}
use Rattle.hec_sender.specs.declared.verdict.Verdict.TheVariants.{Confirms, Asks, Denies, Refuses, Faults}
use Rattle.hec_sender.specs.Texts.{request_text, query_text}
use Rattle.hec_sender.specs.Requests.{IsSent, request_of}
use Rattle.hec_sender.specs.Progress.{session_text, known_by}
use Rattle.hec_sender.specs.Sender.{Sender, given, extent, asked_by, Needs, IsDone, Awaits, IsDue}
use Rattle.hec_sender.specs.Hearing.{Hears}
use Rattle.hec_sender.specs.Sends.{History, SendsOn}

-- how a session ended, as a turn
abbrev pub ending_of : Stop → Turn
ending_of (stop.Refused unit code) = Refused unit code
ending_of (stop.Broken at) = PeerFault at why.Reply
ending_of (stop.Unconfirmed asked) = Unconfirmed asked

-- where replies are waited for and none waits to be taken, of a fault of the reader
abbrev pub IsDry : Sender → Option HttpFault → Type 0
IsDry s fault = Awaits s × (s.reader.waiting ≡ []) × (s.reader.fault ≡ fault)

-- of the sender after a turn
abbrev pub IsTurn : Turn → Sender → Type 0
IsTurn (Write text) s = (0 < length text) × Awaits s
IsTurn (Confirmed upto) s = (s.stop ≡ None) × (s.stage ≡ stage.Unsent) × (upto ≡ s.first + s.done)
IsTurn (Also from to) s = ⊥
IsTurn Need s = Needs s
IsTurn Wait s = IsDry s None
IsTurn Pause s = (query : Query) × IsDue (due.Repeat query) s
IsTurn Done s = IsDone s
IsTurn (Refused unit code) s = s.stop ≡ Some (stop.Refused unit code)
IsTurn PeerClosed s = ⊥
IsTurn (PeerFault at w) s =
    ((s.stop ≡ Some (stop.Broken at)) × (w ≡ why.Reply))
    ⊎ ((e : HttpFault) × IsDry s (Some e) × (at ≡ e.at) × (w ≡ why_of e.why))
IsTurn (Unconfirmed asked) s = s.stop ≡ Some (stop.Unconfirmed asked)

-- the turn for a denial: a pause, unless the query was asked as often as it may be
abbrev pub denied_turn : ℕ → Option Query → Turn
denied_turn polls None = Pause
denied_turn polls (Some query) = if nat_lt query.times polls then Pause else Unconfirmed query.id

-- the turn for a reply that begins at an offset and says this
abbrev pub turn_for : Sender → Option Query → ℕ → Verdict → Turn
turn_for s asked at Confirms = Confirmed (s.first + (s.done + length (request_of s.done s.rest)))
turn_for s asked at (Asks id) = Write (query_text s.terms id)
turn_for s asked at Denies = denied_turn s.terms.polls asked
turn_for s asked at (Refuses code) = Refused s.requests code
turn_for s asked at Faults = PeerFault at why.Reply

-- Of the sender before a turn: what decides the turn.
pub record IsFor (s : Sender) (turn : Turn) : Type 0 where
  pub stopped : (how : Stop) → s.stop ≡ Some how → turn ≡ ending_of how
  pub writes : IsDue due.Send s → turn ≡ Write (request_text s.terms (request_of s.done s.rest))
  pub repeats : (query : Query) → IsDue (due.Repeat query) s → turn ≡ Write (query_text s.terms query.id)
  pub asks : Needs s → turn ≡ Need
  pub ends : IsDone s → turn ≡ Done
  pub hears : (at : ℕ) (verdict : Verdict) → Hears s at verdict → turn ≡ turn_for s (asked_by s.stage) at verdict
  pub waits : IsDry s None → turn ≡ Wait
  pub faults : (e : HttpFault) → IsDry s (Some e) → turn ≡ PeerFault e.at (why_of e.why)

-- how many entries were reported as acknowledged before a turn and after it
abbrev pub IsTold : Turn → ℕ → ℕ → Type 0
IsTold (Confirmed upto) before now = before < now
IsTold turn before now = now ≡ before

-- how many texts and pauses there were for the request under way
abbrev pub stage_spent : Stage → ℕ
stage_spent stage.Unsent = 0
stage_spent stage.Sent = 1
stage_spent (stage.Paused query) = 2 * query.times - 1
stage_spent (stage.Asked query) = 2 * query.times

-- How many texts, pauses and reports there may have been: for each request its text, and a text and a pause for each query.
abbrev pub spent : Sender → ℕ
spent s = s.done + (2 * s.terms.polls + 1) * s.requests + stage_spent s.stage

-- a text, a pause and a report make it greater, and nothing else changes it
abbrev pub IsSpent : Turn → ℕ → ℕ → Type 0
IsSpent (Write text) before now = before < now
IsSpent (Confirmed upto) before now = before < now
IsSpent Pause before now = before < now
IsSpent turn before now = now ≡ before

-- what no turn changes
pub record Stays (old new : Sender) : Type 0 where
  pub terms : new.terms ≡ old.terms
  pub extent : extent new ≡ extent old
  pub given : given new ≡ given old
  pub first : new.first ≡ old.first
  pub finished : new.finished ≡ old.finished

-- what a turn comes to
pub record Acts (old : Sender) (what : Turn) (new : Sender) : Type 0 where
  pub sends : SendsOn old (text_of what) new
  pub turn : IsTurn what new
  pub right : IsFor old what
  pub told : IsTold what old.done new.done
  pub asked : (new.asked ≡ true) ↔ (what ≡ Need)
  pub spends : IsSpent what (spent old) (spent new)
  pub stays : Stays old new

-- what is reported as acknowledged is what the collector's replies acknowledge
abbrev pub TellsAll : History → Sender → Type 0
TellsAll h s = s.done ≡ known_by h.entries h.progress

-- where these entries follow, the text has the request of each entry that was reported as acknowledged
abbrev pub TellsSent : History → List Entry → Sender → Type 0
TellsSent h more s = (place : ℕ) → place < s.done → IsSent s.terms (h.entries ++ more) h.out place

-- the text is that of the entries given
abbrev pub IsWhole : Terms → History → Type 0
IsWhole terms h = h.out ≡ session_text terms h.entries h.progress

-- the text is that of the whole list
abbrev pub IsWholeOf : Terms → History → List Entry → Type 0
IsWholeOf terms h more = h.out ≡ session_text terms (h.entries ++ more) h.progress

-- the text begins that of the whole list
abbrev pub Begins : Terms → History → List Entry → Type 0
Begins terms h more = (rest : List ℕ) × (session_text terms (h.entries ++ more) h.progress ≡ h.out ++ rest)
