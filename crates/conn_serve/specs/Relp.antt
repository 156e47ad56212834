-- What a connection does for the frames of RELP.
use Rattle.std.specs.Prelude.{◌≡◌, ◌⊎◌, ℕ, ◌<◌, List, [], ◌∷◌, length, take, Result, Ok, Err}
use Rattle.event_form.specs.declared.event.Event.{Event}
use Rattle.event_form.specs.declared.event.Entry.{Entry}
use Rattle.event_form.specs.declared.talk.Talk.{Talk}
use Rattle.event_form.specs.declared.talk.Talk.TheVariants as talk
use Rattle.relp_frame.specs.declared.frame.Frame.{Frame}
use Rattle.relp_frame.specs.Reading as stream
use Rattle.relp_frame.specs.Spelling.{IsSpelling}
use Rattle.relp_frame.specs.Why.{why_of}
use Rattle.relp_session.specs.declared.act.RelpAct.{RelpAct}
use Rattle.relp_session.specs.declared.act.RelpAct.TheVariants.{Store, Say, End}
use Rattle.relp_session.specs.Answer.{IsAnswer, stored, hint}
use Rattle.relp_session.specs.declared.state.State.{State}
use Rattle.relp_session.specs.Session.{state_after}
use Rattle.spool_answers.specs.declared.receipt.Receipt.{Receipt}
use Rattle.spool_faults.specs.declared.fault.TakeFault.{TakeFault}
use Rattle.spool_faults.specs.declared.fault.TakeFault.TheVariants.{TooLarge, Spent, Full, NotSpool, NoMemory, DiskFault}
use Rattle.spool_answers.specs.Take.{IsRefusal}
use Rattle.desk_access.specs.Call.{Call, takes}
use Rattle.desk_access.specs.Step.{frames_of, calls_of, count}
use Rattle.desk_access.specs.Protocol.{Protocol, IsNothing}
use Rattle.conn_serve.specs.Front.{IsFront, IsWholeBy, IsFaultyBy}

-- the entry of an event of the connection, which has that many entries before it
abbrev pub entry_of : ℕ → ℕ → ℕ → Event → Entry
entry_of conn index unit event = record { conn = conn; index = index; unit = unit; event = event }

-- the one take of an event, with its answer
abbrev pub one_take : ℕ → ℕ → ℕ → Event → Result Receipt TakeFault → List Call
one_take conn index unit event answer = takes (entry_of conn index unit event ∷ []) answer ∷ []

-- what is done for an act, after that many entries of the connection
abbrev pub Carries : ℕ → ℕ → RelpAct → List Call → List ℕ → Type 0
Carries conn index (Store event txnr) calls text = (receipt : Receipt) × (calls ≡ one_take conn index txnr event (Ok receipt)) × (text ≡ stored txnr)
Carries conn index (Say answer) calls text = (calls ≡ []) × (text ≡ answer)
Carries conn index (End answer) calls text = ⊥

-- the text that is due for an act, once these calls were made
abbrev pub IsDue : ℕ → ℕ → RelpAct → List Call → List ℕ → Type 0
IsDue conn index (Store event txnr) late text =
    ((receipt : Receipt) × (late ≡ one_take conn index txnr event (Ok receipt)) × (text ≡ stored txnr))
    ⊎ ((fault : TakeFault) × IsRefusal fault × (late ≡ one_take conn index txnr event (Err fault)) × (text ≡ hint))
IsDue conn index (Say answer) late text = (late ≡ []) × (text ≡ answer)
IsDue conn index (End answer) late text = (late ≡ []) × (text ≡ answer)

-- the ending by a take that wasn't answered Ok
abbrev pub talk_of : TakeFault → Talk
talk_of (TooLarge need most) = talk.TooLarge need most
talk_of (Spent end) = talk.Spent end
talk_of (Full need room) = talk.Full need room
talk_of (NotSpool at) = talk.NotSpool at
talk_of NoMemory = talk.NoMemory
talk_of DiskFault = talk.DiskFault

-- what is written before it: the hint after a refusal
abbrev pub last_text : TakeFault → List ℕ
last_text (TooLarge need most) = hint
last_text (Spent end) = hint
last_text (Full need room) = hint
last_text (NotSpool at) = []
last_text NoMemory = []
last_text DiskFault = []

-- the event was not taken, and the connection ends so
abbrev pub IsRefused : ℕ → ℕ → RelpAct → List Call → List ℕ → Talk → Type 0
IsRefused conn index (Store event txnr) late part talk =
    (fault : TakeFault) × (late ≡ one_take conn index txnr event (Err fault)) × (talk ≡ talk_of fault) × (part ≡ last_text fault)
IsRefused conn index (Say answer) late part talk = ⊥
IsRefused conn index (End answer) late part talk = ⊥

-- the event wasn't taken for want of memory, or it was refused and no memory was found for the hint
abbrev pub IsStarved : ℕ → ℕ → RelpAct → List Call → Type 0
IsStarved conn index (Store event txnr) late =
    (fault : TakeFault) × (IsRefusal fault ⊎ (fault ≡ NoMemory)) × (late ≡ one_take conn index txnr event (Err fault))
IsStarved conn index (Say answer) late = ⊥
IsStarved conn index (End answer) late = ⊥

-- how the connection ends at a frame with this act
abbrev pub EndsAtAct : ℕ → ℕ → RelpAct → List Call → List ℕ → Talk → Type 0
EndsAtAct conn index act late part talk.Closed = (act ≡ End part) × (late ≡ [])
EndsAtAct conn index act late part talk.WriteFault = (text : List ℕ) × (k : ℕ) × IsDue conn index act late text × (k < length text) × (part ≡ take k text)
EndsAtAct conn index act late part talk.NoMemory = IsStarved conn index act late × (part ≡ [])
EndsAtAct conn index act late part talk = IsRefused conn index act late part talk

-- what is done for a frame, by how far the session is and how many entries stand before it
abbrev pub CarriesFrame : ℕ → State → ℕ → Frame → List Call → List ℕ → Type 0
CarriesFrame conn state index f calls text = (act : RelpAct) × IsAnswer state f act × Carries conn index act calls text

-- how the connection ends at a frame
abbrev pub StopsAtFrame : ℕ → State → ℕ → Frame → List Call → List ℕ → Talk → Type 0
StopsAtFrame conn state index f late part talk = (act : RelpAct) × IsAnswer state f act × EndsAtAct conn index act late part talk

-- RELP, on the connection of this number. A step is for one frame. The frames before it say how far the session is,
-- and the index of an entry counts those that were taken before. No frame is held, and where the input is over
-- nothing is left to be done.
abbrev pub relp : ℕ → Protocol Frame
relp conn = record {
  IsFront = IsFront IsSpelling;
  IsWhole = IsWholeBy stream.relp;
  IsFaulty = IsFaultyBy stream.relp (λ e. e.at) (λ e. why_of e.why);
  IsMove = λ before s. (f : Frame) × (s.frames ≡ f ∷ []) × CarriesFrame conn (state_after (frames_of before)) (count (calls_of before)) f s.calls s.text;
  AreHeld = λ before held. held ≡ [];
  MayGiveUp = λ before held. held ≡ [];
  Stops = λ before held. StopsAtFrame conn (state_after (frames_of before)) (count (calls_of before));
  IsLastMove = λ before held over. IsNothing;
  StopsLast = λ before held over late part talk. ⊥;
}
