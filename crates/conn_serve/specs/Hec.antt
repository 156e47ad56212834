-- What a connection does for the requests of Splunk's HTTP Event Collector.
use Rattle.std.specs.Prelude.{◌≡◌, ◌⊎◌, ℕ, ◌+◌, ◌<◌, Bool, true, false, List, [], ◌∷◌, ◌++◌, length, take, Option, None, Some, Result, Ok, Err, codes}
use Rattle.event_form.specs.declared.event.Event.{Event}
use Rattle.event_form.specs.declared.event.Entry.{Entry}
use Rattle.event_form.specs.declared.talk.Talk.{Talk}
use Rattle.event_form.specs.declared.talk.Talk.TheVariants as talk
use Rattle.http_edge.specs.declared.fault.HttpWhy.{HttpWhy}
use Rattle.http_edge.specs.declared.request.HttpItem.{HttpItem}
use Rattle.http_edge.specs.declared.request.HttpItem.TheVariants.{Continue, Request}
use Rattle.http_edge.specs.Fields.{closes}
use Rattle.http_edge.specs.HttpStream.{AreRequests, IsStream, IsFaulty, BeginsWith, told_of}
use Rattle.http_edge.specs.Reply.{crlf, reply_text}
use Rattle.http_edge.specs.Why.{why_of}
use Rattle.httparse.specs.Grammar.{RequestHead}
use Rattle.hec_body.specs.Acks.{answer_of}
use Rattle.hec_ids.specs.declared.fault.IssueFault.{IssueFault}
use Rattle.hec_ids.specs.declared.fault.IssueFault.TheVariants as issue
use Rattle.hec_session.specs.Acts.{IsAct}
use Rattle.hec_session.specs.Codes.{body_of, say_of, status_of, success_of}
use Rattle.hec_session.specs.declared.act.HecAct.{HecAct}
use Rattle.hec_session.specs.declared.act.HecAct.TheVariants.{StoreThenSay, SayThenStore, Ask, Say}
use Rattle.hec_session.specs.declared.code.HecCode.{HecCode}
use Rattle.hec_session.specs.declared.code.HecCode.TheVariants.{InvalidFormat, ServerBusy, ServerError}
use Rattle.hec_session.specs.declared.tokens.Tokens.{Tokens}
use Rattle.spool_answers.specs.declared.receipt.Receipt.{Receipt}
use Rattle.spool_faults.specs.declared.fault.TakeFault.{TakeFault}
use Rattle.spool_faults.specs.declared.fault.TakeFault.TheVariants.{TooLarge, Spent, Full, NotSpool, NoMemory, DiskFault}
use Rattle.desk_access.specs.Call.{Call, takes, issues, settles, forgets, asks}
use Rattle.desk_access.specs.Step.{calls_of, count}
use Rattle.desk_access.specs.Protocol.{Protocol, IsNothing}
use Rattle.conn_serve.specs.Relp.{talk_of, entry_of}

-- ---- texts

-- the leave to send a body (RFC 9110, section 15.2.1)
abbrev pub continued : List ℕ
continued = codes "HTTP/1.1 100 Continue" ++ crlf ++ crlf

-- the reply with a code, and with the number of an event at fault
abbrev pub reply : HecCode → Option ℕ → Bool → List ℕ
reply code event closing = reply_text (status_of code) closing (body_of code event)

-- Success, with the id of the events where they have one
abbrev pub success : Option ℕ → Bool → List ℕ
success ack closing = reply_text 200 closing (success_of ack)

-- the answer to a query
abbrev pub answers : List ℕ → List Bool → Bool → List ℕ
answers ids known closing = reply_text 200 closing (answer_of ids known)

-- what is said of a take that wasn't answered Ok, where nothing was said before: 503 where there is no room, 500
-- where the disk failed
abbrev pub refusal : TakeFault → List ℕ
refusal (TooLarge need most) = reply ServerBusy None true
refusal (Spent end) = reply ServerBusy None true
refusal (Full need room) = reply ServerBusy None true
refusal (NotSpool at) = reply ServerError None true
refusal NoMemory = []
refusal DiskFault = reply ServerError None true

-- and of an id that wasn't issued
abbrev pub unissued : IssueFault → List ℕ
unissued (issue.NoMore run) = reply ServerBusy None true
unissued (issue.Busy held) = reply ServerBusy None true
unissued issue.NoMemory = []

-- how the connection ends then
abbrev pub talk_of_issue : IssueFault → Talk
talk_of_issue (issue.NoMore run) = talk.NoMore run
talk_of_issue (issue.Busy held) = talk.Busy held
talk_of_issue issue.NoMemory = talk.NoMemory

-- ---- one request

-- the entries of events of the connection, which has that many entries before them; all have this unit
abbrev pub entries_of : ℕ → ℕ → ℕ → List Event → List Entry
entries_of conn index unit [] = []
entries_of conn index unit (event ∷ events) = entry_of conn index unit event ∷ entries_of conn (index + 1) unit events

-- the one take of events, with its answer
abbrev pub takes_all : ℕ → ℕ → ℕ → List Event → Result Receipt TakeFault → Call
takes_all conn index unit events answer = takes (entries_of conn index unit events) answer

-- All is done for an act, by these calls and this text. Without acks the events are taken, and then Success is said.
-- With acks an id is issued and said, the events are taken under it, and then it is settled, and not before.
abbrev pub IsDone : ℕ → ℕ → HecAct → Bool → List Call → List ℕ → Type 0
IsDone conn index (Say say) closing calls text = (code : HecCode) × (say ≡ say_of code say.event) × (calls ≡ []) × (text ≡ reply code say.event closing)
IsDone conn index (StoreThenSay events) closing calls text =
    (receipt : Receipt) × (calls ≡ takes_all conn index 0 events.items (Ok receipt) ∷ []) × (text ≡ success None closing)
IsDone conn index (SayThenStore channel events) closing calls text =
    (id : ℕ) × (receipt : Receipt) × (unsettled : Bool)
    × (calls ≡ issues channel (Ok id) ∷ takes_all conn index id events.items (Ok receipt) ∷ settles channel id unsettled ∷ [])
    × (text ≡ success (Some id) closing)
IsDone conn index (Ask channel ids) closing calls text =
    (known : List Bool) × (calls ≡ asks channel ids.items known ∷ []) × (text ≡ answers ids.items known closing)

-- the spool or the table of ids refused it before anything was said: this is said then, and the connection ends so
abbrev pub IsRefused : ℕ → ℕ → HecAct → List Call → List ℕ → Talk → Type 0
IsRefused conn index (Say say) calls text talk = ⊥
IsRefused conn index (StoreThenSay events) calls text talk =
    (fault : TakeFault) × (calls ≡ takes_all conn index 0 events.items (Err fault) ∷ []) × (text ≡ refusal fault) × (talk ≡ talk_of fault)
IsRefused conn index (SayThenStore channel events) calls text talk =
    (fault : IssueFault) × (calls ≡ issues channel (Err fault) ∷ []) × (text ≡ unissued fault) × (talk ≡ talk_of_issue fault)
IsRefused conn index (Ask channel ids) calls text talk = ⊥

-- the id was said and its events were not taken: the id is forgotten, and nothing more is said
abbrev pub IsUnstored : ℕ → ℕ → HecAct → Bool → List Call → List ℕ → Talk → Type 0
IsUnstored conn index (SayThenStore channel events) closing calls text talk =
    (id : ℕ) × (fault : TakeFault) × (held : Bool)
    × (calls ≡ issues channel (Ok id) ∷ takes_all conn index id events.items (Err fault) ∷ forgets channel id held ∷ [])
    × (text ≡ success (Some id) closing) × (talk ≡ talk_of fault)
IsUnstored conn index act closing calls text talk = ⊥

-- the id was issued, and is forgotten before its events are taken
abbrev pub IsForgotten : ℕ → ℕ → List Call → Type 0
IsForgotten channel id calls = (held : Bool) × (calls ≡ issues channel (Ok id) ∷ forgets channel id held ∷ [])

-- no memory was found for the entries of an id that was issued or for its reply, or for the answer to a query; nothing
-- was said
abbrev pub IsStarved : HecAct → List Call → Type 0
IsStarved (Say say) calls = ⊥
IsStarved (StoreThenSay events) calls = ⊥
IsStarved (SayThenStore channel events) calls = (id : ℕ) × IsForgotten channel id calls
IsStarved (Ask channel ids) calls = (known : List Bool) × (calls ≡ asks channel ids.items known ∷ [])

-- these calls were made, and this is the text that is due and wasn't written whole. Where that is an id, it is forgotten,
-- and its events aren't taken.
abbrev pub IsDue : ℕ → ℕ → HecAct → Bool → List Call → List ℕ → Type 0
IsDue conn index (SayThenStore channel events) closing calls text =
    ((id : ℕ) × IsForgotten channel id calls × (text ≡ success (Some id) closing))
    ⊎ ((talk : Talk) × IsRefused conn index (SayThenStore channel events) calls text talk)
IsDue conn index act closing calls text = IsDone conn index act closing calls text ⊎ ((talk : Talk) × IsRefused conn index act calls text talk)

-- a part of the text, not all
abbrev pub IsCut : List ℕ → List ℕ → Type 0
IsCut text part = (k : ℕ) × (k < length text) × (part ≡ take k text)

-- how the connection ends at an act
abbrev pub EndsAtAct : ℕ → ℕ → HecAct → Bool → List Call → List ℕ → Talk → Type 0
EndsAtAct conn index act closing late part talk.Closed = (closing ≡ true) × IsDone conn index act true late part
EndsAtAct conn index act closing late part talk.WriteFault = (text : List ℕ) × IsDue conn index act closing late text × IsCut text part
EndsAtAct conn index act closing late part talk.NoMemory =
    (IsStarved act late × (part ≡ [])) ⊎ (IsRefused conn index act late part talk.NoMemory ⊎ IsUnstored conn index act closing late part talk.NoMemory)
EndsAtAct conn index act closing late part talk = IsRefused conn index act late part talk ⊎ IsUnstored conn index act closing late part talk

-- what is done for an item, after that many entries of the connection: the leave is said, or what the request asks for is done
abbrev pub CarriesItem : Tokens → ℕ → ℕ → HttpItem → List Call → List ℕ → Type 0
CarriesItem tokens conn index Continue calls text = (calls ≡ []) × (text ≡ continued)
CarriesItem tokens conn index (Request r) calls text = (act : HecAct) × IsAct tokens r act × (closes r ≡ false) × IsDone conn index act false calls text

-- how the connection ends at an item
abbrev pub StopsAtItem : Tokens → ℕ → ℕ → HttpItem → List Call → List ℕ → Talk → Type 0
StopsAtItem tokens conn index Continue late part talk.WriteFault = (late ≡ []) × IsCut continued part
StopsAtItem tokens conn index Continue late part talk = ⊥
StopsAtItem tokens conn index (Request r) late part talk = (act : HecAct) × IsAct tokens r act × EndsAtAct conn index act (closes r) late part talk

-- ---- the input is over

-- at a fault of the bytes it is said that they aren't read here, and nothing at their end
abbrev pub SaysLast : Talk → List Call → List ℕ → Type 0
SaysLast (talk.Fault at why) late part = (late ≡ []) × (part ≡ reply InvalidFormat None true)
SaysLast over late part = IsNothing late part

-- and that wasn't written whole
abbrev pub StopsSaying : Talk → List Call → List ℕ → Talk → Type 0
StopsSaying (talk.Fault at why) late part talk.WriteFault = (late ≡ []) × IsCut (reply InvalidFormat None true) part
StopsSaying over late part talk = ⊥

-- ---- the protocol

-- The bytes are whole requests, and what follows them; the items are those of the requests, and perhaps the one that is
-- told of the head that follows them.
pub record AreTold (b : List ℕ) (items : List HttpItem) (at : ℕ) : Type 0 where
  pub before : List HttpItem
  pub rest : List ℕ
  pub told : List HttpItem
  pub requests : AreRequests b before at rest
  pub items_are : items ≡ before ++ told
  pub going : (told ≡ []) ⊎ ((h : RequestHead) × (text : List ℕ) × BeginsWith rest h text × (told ≡ told_of h))

-- The collector with these tokens, on the connection of this number. A step is for one item: a request, or the question
-- of one whether its body may come. No item is held.
abbrev pub hec : Tokens → ℕ → Protocol HttpItem
hec tokens conn = record {
  IsFront = AreTold;
  IsWhole = λ b items at. (rest : List ℕ) × IsStream b items at rest;
  IsFaulty = λ b items place why. (at : ℕ) × (reason : HttpWhy) × IsFaulty b items at place reason × (why ≡ why_of reason);
  IsMove = λ before s. (item : HttpItem) × (s.frames ≡ item ∷ []) × CarriesItem tokens conn (count (calls_of before)) item s.calls s.text;
  AreHeld = λ before held. held ≡ [];
  MayGiveUp = λ before held. Unit {0};
  Stops = λ before held. StopsAtItem tokens conn (count (calls_of before));
  IsLastMove = λ before held. SaysLast;
  StopsLast = λ before held. StopsSaying;
}
