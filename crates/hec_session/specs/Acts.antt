-- What a receiver does for a request: the answer of the first check that doesn't pass, or else what its body
-- asks for.
use Rattle.std.specs.Prelude.{◌≡◌, ℕ, ◌<◌, ◌≤◌, ⊤, List, length, map, nat_eq, Some, None, Result, Ok, Err}
use Rattle.std.specs.List.{All, IsDistinct}
use Rattle.event_form.specs.declared.event.Event.{Event}
use Rattle.event_form.specs.declared.event.Origin.{Origin}
use Rattle.event_form.specs.declared.event.Origin.TheVariants.{HecEvent, HecRaw}
use Rattle.event_form.specs.Event.{IsEvent}
use Rattle.body_faults.specs.declared.fault.BodyFault.{BodyFault}
use Rattle.body_faults.specs.declared.fault.BodyFault.TheVariants.{NoData, Format, NoEvent, Blank, TooMany, NoMemory}
use Rattle.hec_body.specs.Events.{IsCut}
use Rattle.hec_body.specs.Lines.{IsLineCut}
use Rattle.hec_body.specs.Acks.{AsksFor}
use Rattle.http_edge.specs.declared.head.Head.{Head}
use Rattle.http_edge.specs.declared.request.HttpRequest.{HttpRequest}
use Rattle.http_edge.specs.Waits.{with_body}
use Rattle.hec_session.specs.declared.act.HecAct.{HecAct}
use Rattle.hec_session.specs.declared.act.HecAct.TheVariants.{StoreThenSay, SayThenStore, Ask, Say}
use Rattle.hec_session.specs.declared.code.HecCode.{HecCode}
use Rattle.hec_session.specs.declared.code.HecCode.TheVariants.{EmptyBody, InvalidFormat, EventRequired, EventBlank}
use Rattle.hec_session.specs.declared.endpoint.Form.{Form}
use Rattle.hec_session.specs.declared.endpoint.Form.TheVariants.{Objects, Raw}
use Rattle.hec_session.specs.declared.say.HecSay.{HecSay}
use Rattle.hec_session.specs.declared.stop.Stop.{Stop}
use Rattle.hec_session.specs.declared.stop.Stop.TheVariants.{Answer, OutOfMemory}
use Rattle.hec_session.specs.declared.task.Task.{Task}
use Rattle.hec_session.specs.declared.task.Task.TheVariants.{Store, StoreOn, AskOn}
use Rattle.hec_session.specs.Codes.{say_of, IsReply}
use Rattle.hec_session.specs.declared.tokens.Tokens.{Tokens}
use Rattle.hec_session.specs.Checks.{task_of}

-- what a body is cut into, by its form
abbrev pub IsCutBy : Form → List ℕ → Result (List (List ℕ)) BodyFault → Type 0
IsCutBy Objects body cut = IsCut body cut
IsCutBy Raw body cut = IsLineCut body cut

abbrev pub origin_of : Form → Origin
origin_of Objects = HecEvent
origin_of Raw = HecRaw

-- the event with a text
abbrev pub event_of : Form → List ℕ → Event
event_of form text = record { origin = origin_of form; text = text }

-- these are the events of a body
abbrev pub AreEventsOf : Form → List ℕ → List Event → Type 0
AreEventsOf form body events = (texts : List (List ℕ)) × IsCutBy form body (Ok texts) × (events ≡ map (event_of form) texts)

-- how a fault of a body is told, with the number of the event; want of memory is told to nobody
abbrev pub Tells : BodyFault → HecSay → Type 0
Tells NoData say = say ≡ say_of EmptyBody None
Tells (Format event) say = say ≡ say_of InvalidFormat (Some event)
Tells (NoEvent event) say = say ≡ say_of EventRequired (Some event)
Tells (Blank event) say = say ≡ say_of EventBlank (Some event)
Tells TooMany say = say ≡ say_of InvalidFormat (Some 10000)
Tells NoMemory say = ⊥

-- this tells the first fault of a body
abbrev pub TellsFaultOf : Form → List ℕ → HecSay → Type 0
TellsFaultOf form body say = (fault : BodyFault) × IsCutBy form body (Err fault) × Tells fault say

-- a token without acks: the events are stored, or the body's fault is told
abbrev pub Stores : Form → List ℕ → HecAct → Type 0
Stores form body (StoreThenSay events) = AreEventsOf form body events.items
Stores form body (SayThenStore channel events) = ⊥
Stores form body (Ask channel ids) = ⊥
Stores form body (Say say) = TellsFaultOf form body say

-- a token that uses acks: the same on a channel
abbrev pub StoresOn : Form → ℕ → List ℕ → HecAct → Type 0
StoresOn form on body (StoreThenSay events) = ⊥
StoresOn form on body (SayThenStore channel events) = (channel ≡ on) × AreEventsOf form body events.items
StoresOn form on body (Ask channel ids) = ⊥
StoresOn form on body (Say say) = TellsFaultOf form body say

-- an ack query: ids are asked for on a channel, or the body is none
abbrev pub AsksOn : ℕ → List ℕ → HecAct → Type 0
AsksOn on body (StoreThenSay events) = ⊥
AsksOn on body (SayThenStore channel events) = ⊥
AsksOn on body (Ask channel ids) = (channel ≡ on) × AsksFor body ids.items
AsksOn on body (Say say) = ((ids : List ℕ) → ¬ AsksFor body ids) × (say ≡ say_of InvalidFormat None)

-- the act for a body, once it is known what is to be done with it
abbrev pub IsActFor : List ℕ → Result Task HecCode → HecAct → Type 0
IsActFor body (Ok (Store form)) act = Stores form body act
IsActFor body (Ok (StoreOn form channel)) act = StoresOn form channel body act
IsActFor body (Ok (AskOn channel)) act = AsksOn channel body act
IsActFor body (Err code) act = act ≡ Say (say_of code None)

-- the act for a request
abbrev pub IsAct : Tokens → HttpRequest → HecAct → Type 0
IsAct tokens r act = IsActFor r.body (task_of tokens r) act

-- a request with this head is answered so, whatever its body is
abbrev pub IsRefusal : Tokens → Head → HecSay → Type 0
IsRefusal tokens head say = (body : List ℕ) → IsAct tokens (with_body head body) (Say say)

-- what is done for a request with this head depends on its body: no check before it answers
abbrev pub WantsBody : Tokens → Head → Type 0
WantsBody tokens head = (task : Task) × ((body : List ℕ) → task_of tokens (with_body head body) ≡ Ok task)

-- at least one event, at most 10,000, and each within its limits
pub record AreWithinLimits (events : List Event) : Type 0 where
  pub some : 0 < length events
  pub few : length events ≤ 10000
  pub each : All IsEvent events

-- the ids of a query: each stands there once, and there are at most 10,000
pub record AreAsked (ids : List ℕ) : Type 0 where
  pub distinct : IsDistinct nat_eq ids
  pub few : length ids ≤ 10000

-- events that are stored and ids that are asked for keep their limits, and a reply can be written
abbrev pub IsSound : HecAct → Type 0
IsSound (StoreThenSay events) = AreWithinLimits events.items
IsSound (SayThenStore channel events) = AreWithinLimits events.items
IsSound (Ask channel ids) = AreAsked ids.items
IsSound (Say say) = IsReply say

-- how many events an act stores
abbrev pub count_of : HecAct → ℕ
count_of (StoreThenSay events) = length events.items
count_of (SayThenStore channel events) = length events.items
count_of (Ask channel ids) = 0
count_of (Say say) = 0

-- ---- steps on the way

-- a check as it is found, unless memory is wanting
abbrev pub Finds : {A : Type 0} → Result A HecCode → Result A Stop → Type 0
Finds check (Ok value) = check ≡ Ok value
Finds check (Err (Answer code)) = check ≡ Err code
Finds check (Err OutOfMemory) = ⊤
