-- What a session of the collector has read and served, and what its functions do for an item.
use Rattle.std.specs.Prelude.{◌≡◌, ◌⊎◌, ℕ, ◌<◌, Bool, false, List, [], ◌∷◌, ◌++◌, Option, Some, None, Ok, Err}
use Rattle.event_form.specs.declared.event.Event.{Event}
use Rattle.event_form.specs.declared.feed_fault.FeedFault.{FeedFault}
use Rattle.event_form.specs.declared.feed_fault.FeedFault.TheVariants as feed
use Rattle.event_form.specs.declared.talk.Talk.{Talk}
use Rattle.event_form.specs.declared.talk.Talk.TheVariants.{WriteFault, NoMemory}
use Rattle.http_edge.specs.declared.fault.HttpFault.{HttpFault}
use Rattle.http_edge.specs.declared.request.HttpItem.{HttpItem}
use Rattle.http_edge.specs.declared.request.HttpItem.TheVariants as item
use Rattle.http_edge.specs.Fields.{closes}
use Rattle.http_edge.specs.Lending.{GivesItem}
use Rattle.http_edge.specs.Window.{Window, Reads, held_of}
use Rattle.hec_session.specs.Acts.{IsAct, IsSound}
use Rattle.hec_session.specs.declared.act.HecAct.{HecAct}
use Rattle.hec_session.specs.declared.act.HecAct.TheVariants.{SayThenStore}
use Rattle.hec_session.specs.declared.code.HecCode.{HecCode}
use Rattle.hec_session.specs.declared.code.HecCode.TheVariants.{InvalidFormat, ServerBusy, ServerError}
use Rattle.hec_session.specs.declared.tokens.Tokens.{Tokens}
use Rattle.spool_answers.specs.declared.receipt.Receipt.{Receipt}
use Rattle.spool_faults.specs.declared.fault.TakeFault.{TakeFault}
use Rattle.desk_access.specs.Call.{Call, issues, settles}
use Rattle.desk_access.specs.Protocol.{IsNothing}
use Rattle.conn_serve.specs.declared.hec.asked.Asked.{Asked}
use Rattle.conn_serve.specs.declared.hec.asked.Asked.TheVariants.{Leave, Act}
use Rattle.conn_serve.specs.declared.hec.last.LastReply.{LastReply}
use Rattle.conn_serve.specs.declared.hec.last.LastReply.TheVariants.{Busy, Failed, Malformed}
use Rattle.conn_serve.specs.Relp.{talk_of}
use Rattle.conn_serve.specs.Hec.{IsDone, IsRefused, EndsAtAct, StopsAtItem, IsCut, takes_all, continued, success}

-- The window has read these items, but for those that wait, and met this. Where it found no memory, it has read the
-- first of the bytes.
abbrev pub ReadsBy : Window → Option (FeedFault HttpFault) → List ℕ → List HttpItem → Type 0
ReadsBy w None b items = Reads b items w × (w.reading.fault ≡ None)
ReadsBy w (Some (feed.Fault e)) b items = Reads b items w × (w.reading.fault ≡ Some e)
ReadsBy w (Some feed.NoMemory) b items = (front : List ℕ) × (more : List ℕ) × (b ≡ front ++ more) × Reads front items w

-- what the item asks for, and whether the connection ends with the answer
abbrev pub IsAsked : Tokens → HttpItem → Asked → Type 0
IsAsked tokens item.Continue Leave = Unit {0}
IsAsked tokens item.Continue (Act act closing) = ⊥
IsAsked tokens (item.Request r) Leave = ⊥
IsAsked tokens (item.Request r) (Act act closing) = IsAct tokens r act × (closing ≡ closes r)

-- events that are stored keep their limits, and a reply can be written
abbrev pub IsSoundAsked : Asked → Type 0
IsSoundAsked Leave = Unit {0}
IsSoundAsked (Act act closing) = IsSound act

-- the next item is given, and no longer waits; or none waits, and there is room
abbrev pub GivesAsked : Tokens → Window → Option Asked → Window → Type 0
GivesAsked tokens old None new = (old.reading.waiting ≡ []) × (new ≡ old) × (held_of new < 1064960)
GivesAsked tokens old (Some asked) new = (i : HttpItem) × GivesItem old i new × IsAsked tokens i asked

-- what is done for an item that asks for this
abbrev pub Carries : ℕ → ℕ → Asked → List Call → List ℕ → Type 0
Carries conn index Leave calls text = (calls ≡ []) × (text ≡ continued)
Carries conn index (Act act closing) calls text = (closing ≡ false) × IsDone conn index act false calls text

-- an act was not carried whole: nothing was done for want of memory, or the connection ends at it
abbrev pub HaltsAtAct : ℕ → ℕ → HecAct → Bool → Talk → List Call → List ℕ → Type 0
HaltsAtAct conn index act closing talk late part = (IsNothing late part × (talk ≡ NoMemory)) ⊎ EndsAtAct conn index act closing late part talk

-- so was an item that asks for this
abbrev pub Halts : ℕ → ℕ → Asked → Talk → List Call → List ℕ → Type 0
Halts conn index Leave talk late part = (late ≡ []) × IsCut continued part × (talk ≡ WriteFault)
Halts conn index (Act act closing) talk late part = HaltsAtAct conn index act closing talk late part

-- and an item
abbrev pub HaltsAtItem : Tokens → ℕ → ℕ → HttpItem → Talk → List Call → List ℕ → Type 0
HaltsAtItem tokens conn index i talk late part = (IsNothing late part × (talk ≡ NoMemory)) ⊎ StopsAtItem tokens conn index i late part talk

-- a text is said as the connection's last one, which is then to end so, unless the text was cut short
abbrev pub EndsSaying : List ℕ → Talk → List ℕ → Talk → Type 0
EndsSaying text over part talk = ((talk ≡ over) × (part ≡ text)) ⊎ ((talk ≡ WriteFault) × IsCut text part)

-- the code of a reply that says why the connection ends
abbrev pub code_of : LastReply → HecCode
code_of Busy = ServerBusy
code_of Failed = ServerError
code_of Malformed = InvalidFormat

-- an id that was issued was said, its events were taken, and it was settled
abbrev pub StoresUnder : ℕ → ℕ → ℕ → ℕ → List Event → Bool → List Call → List ℕ → Type 0
StoresUnder conn index channel id events closing calls text =
    (receipt : Receipt) × (unsettled : Bool) × (calls ≡ takes_all conn index id events (Ok receipt) ∷ settles channel id unsettled ∷ [])
    × (text ≡ success (Some id) closing)

-- it wasn't said, for want of memory or because its reply was cut short; or it was said, and its events weren't taken
abbrev pub FailsUnder : ℕ → ℕ → ℕ → List Event → Bool → Talk → List Call → List ℕ → Type 0
FailsUnder conn index id events closing talk calls text =
    (IsNothing calls text × (talk ≡ NoMemory))
    ⊎ (((calls ≡ []) × IsCut (success (Some id) closing) text × (talk ≡ WriteFault))
    ⊎ ((fault : TakeFault) × (calls ≡ takes_all conn index id events (Err fault) ∷ []) × (text ≡ success (Some id) closing) × (talk ≡ talk_of fault)))

-- The text may be said for an act once these calls were made: it is what is said where all is done, or where it was refused. An id is
-- said as soon as it is issued, before its events are taken.
abbrev pub IsSayable : ℕ → ℕ → HecAct → Bool → List Call → List ℕ → Type 0
IsSayable conn index (SayThenStore channel events) closing calls text =
    ((id : ℕ) × (calls ≡ issues channel (Ok id) ∷ []) × (text ≡ success (Some id) closing))
    ⊎ ((talk : Talk) × IsRefused conn index (SayThenStore channel events) calls text talk)
IsSayable conn index act closing calls text =
    IsDone conn index act closing calls text ⊎ ((talk : Talk) × IsRefused conn index act calls text talk)

-- the same of an item that asks for this
abbrev pub IsSayableFor : ℕ → ℕ → Asked → List Call → List ℕ → Type 0
IsSayableFor conn index Leave calls text = (calls ≡ []) × (text ≡ continued)
IsSayableFor conn index (Act act closing) calls text = IsSayable conn index act closing calls text
