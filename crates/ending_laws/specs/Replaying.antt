-- Where a connection over a spool has nothing in its way, and what the spool has after it.
use Rattle.std.specs.Prelude.{◌≡◌, ◌⊎◌, ◌<◌, ℕ, true, List, [], ◌∷◌, ◌++◌, length, map, flat_map, None}
use Rattle.std.specs.List.{Contains}
use Rattle.event_form.specs.declared.event.Event.{Event}
use Rattle.event_form.specs.declared.event.Entry.{Entry}
use Rattle.edge_io.specs.declared.proto.Proto.{Proto}
use Rattle.edge_io.specs.declared.proto.Proto.TheVariants.{Relp, Lumberjack, Hec}
use Rattle.edge_disk.specs.Disk.{Moment}
use Rattle.stream_grammar.specs.Framing.{AreSpelled}
use Rattle.relp_frame.specs.declared.frame.Frame.{Frame}
use Rattle.relp_frame.specs.Spelling.{IsSpelling}
use Rattle.relp_session.specs.declared.act.RelpAct.{RelpAct}
use Rattle.relp_session.specs.declared.act.RelpAct.TheVariants as relp_act
use Rattle.relp_session.specs.Answer.{IsAnswer}
use Rattle.relp_session.specs.Session.{AreActs, closed, state_after}
use Rattle.lumber_frame.specs.declared.frame.LumberFrame.{LumberFrame}
use Rattle.lumber_frame.specs.declared.side.Side.TheVariants.{Receiver}
use Rattle.lumber_frame.specs.Spelling.{Spells}
use Rattle.lumber_session.specs.Batches.{EndsNowhere, IsBatch}
use Rattle.lumber_session.specs.Staged.{staged}
use Rattle.http_edge.specs.declared.request.HttpItem.{HttpItem}
use Rattle.http_edge.specs.declared.request.HttpItem.TheVariants.{Continue, Request}
use Rattle.http_edge.specs.declared.request.HttpRequest.{HttpRequest}
use Rattle.http_edge.specs.Fields.{closes}
use Rattle.hec_ids.specs.Rows.{refusal}
use Rattle.hec_session.specs.Acts.{IsAct}
use Rattle.hec_session.specs.declared.act.HecAct.{HecAct}
use Rattle.hec_session.specs.declared.act.HecAct.TheVariants as hec_act
use Rattle.hec_session.specs.declared.tokens.Tokens.{Tokens}
use Rattle.spool_state.specs.SpoolState.{SpoolState}
use Rattle.spool_state.specs.Image.{StandsFor}
use Rattle.spool_answers.specs.Take.{Fits}
use Rattle.desk_access.specs.Call.{Record, AreBy}
use Rattle.desk_access.specs.Desk.{DeskState, Goes}
use Rattle.desk_access.specs.History.{IsLater, Grown}
use Rattle.desk_access.specs.Protocol.{Protocol, AreMoves}
use Rattle.desk_access.specs.Step.{Step, frames_of, calls_of, count}
use Rattle.conn_serve.specs.Front.{IsFront}
use Rattle.conn_serve.specs.Hec.{hec, AreTold}
use Rattle.conn_serve.specs.Hec as collector
use Rattle.conn_serve.specs.Lumber.{lumberjack}
use Rattle.conn_serve.specs.Lumber as lumber
use Rattle.conn_serve.specs.Relp.{relp, entry_of}
use Rattle.bridge_parts.specs.Opened.{desk_in}

-- ---- what is refused nowhere

-- The first moves of a connection over a spool in that state: each is what is to be done for its frames, and their calls lead
-- to this desk.
pub record AreFirstMoves {F : Type 0} (p : Protocol F) (s : SpoolState) (steps : List (Step F)) (x : DeskState) : Type 0 where
  pub moves : AreMoves p [] steps
  pub records : List Record
  pub by : AreBy 0 (calls_of steps) records
  pub goes : Goes (desk_in s) records x

-- RELP: where the first moves lead, the event of the next frame fits.
abbrev pub RelpFits : ℕ → SpoolState → List ℕ → Type 0
RelpFits conn s b =
    (steps : List (Step Frame)) (x : DeskState) (f : Frame) (at : ℕ) (event : Event) (txnr : ℕ) → AreFirstMoves (relp conn) s steps x
    → IsFront IsSpelling b (frames_of steps ++ f ∷ []) at → IsAnswer (state_after (frames_of steps)) f (relp_act.Store event txnr)
    → Fits x.spool (entry_of conn (count (calls_of steps)) txnr event ∷ [])

-- The frames after those are a batch, or the last ones, which stage something.
abbrev pub IsStoredNext : List ℕ → List LumberFrame → List LumberFrame → ℕ → Type 0
IsStoredNext b before frames at = IsBatch before frames ⊎ (EndsNowhere before frames × (at ≡ length b) × (0 < length (staged frames)))

-- Lumberjack: there the next batch fits.
abbrev pub LumberFits : ℕ → SpoolState → List ℕ → Type 0
LumberFits conn s b =
    (steps : List (Step LumberFrame)) (x : DeskState) (frames : List LumberFrame) (at : ℕ) → AreFirstMoves (lumberjack conn) s steps x
    → IsFront (Spells Receiver) b (frames_of steps ++ frames) at → IsStoredNext b (frames_of steps) frames at
    → Fits x.spool (lumber.entries_of conn (count (calls_of steps)) (staged frames))

-- The spool has room for what an act stores, and the table of ids gives its channel one.
abbrev pub IsGranted : DeskState → ℕ → ℕ → HecAct → Type 0
IsGranted x conn index (hec_act.StoreThenSay events) = Fits x.spool (collector.entries_of conn index 0 events.items)
IsGranted x conn index (hec_act.SayThenStore channel events) =
    (refusal x.ids channel ≡ None) × Fits x.spool (collector.entries_of conn index x.ids.next events.items)
IsGranted x conn index (hec_act.Ask channel ids) = Unit {0}
IsGranted x conn index (hec_act.Say say) = Unit {0}

-- The collector: there the next request is granted.
abbrev pub HecFits : Tokens → ℕ → SpoolState → List ℕ → Type 0
HecFits tokens conn s b =
    (steps : List (Step HttpItem)) (x : DeskState) (r : HttpRequest) (at : ℕ) (act : HecAct) → AreFirstMoves (hec tokens conn) s steps x
    → AreTold b (frames_of steps ++ Request r ∷ []) at → IsAct tokens r act → IsGranted x conn (count (calls_of steps)) act

-- no group and no id that the bytes bring is refused
abbrev pub NoneIsRefused : Proto → Tokens → ℕ → SpoolState → List ℕ → Type 0
NoneIsRefused Relp tokens conn s b = RelpFits conn s b
NoneIsRefused Lumberjack tokens conn s b = LumberFits conn s b
NoneIsRefused Hec tokens conn s b = HecFits tokens conn s b

-- ---- bytes that end with a frame, and their events

-- the events of entries
abbrev pub events_of : List Entry → List Event
events_of entries = map (λ (e : Entry). e.event) entries

-- what an act of RELP stores
abbrev pub relp_events : RelpAct → List Event
relp_events (relp_act.Store event txnr) = event ∷ []
relp_events (relp_act.Say text) = []
relp_events (relp_act.End text) = []

-- the bytes are these frames and no more, or one of them is a `close`, after which all is dropped
abbrev pub RelpEnds : List ℕ → List Frame → Type 0
RelpEnds b frames = (at : ℕ) × IsFront IsSpelling b frames at × ((at ≡ length b) ⊎ (closed frames ≡ true))

-- the frames store these events, each by its row of the table
abbrev pub RelpStores : List Frame → List Event → Type 0
RelpStores frames events = (acts : List RelpAct) × AreActs frames acts × (events ≡ flat_map relp_events acts)

-- the bytes are these frames and no more
abbrev pub LumberEnds : List ℕ → List LumberFrame → Type 0
LumberEnds b frames = AreSpelled (Spells Receiver) frames b

-- each data frame stores its event
abbrev pub LumberStores : List LumberFrame → List Event → Type 0
LumberStores frames events = events ≡ map (λ one. one.event) (staged frames)

-- one of these items is a request after whose answer the connection closes
abbrev pub HasClosing : List HttpItem → Type 0
HasClosing items = (r : HttpRequest) × Contains items (Request r) × (closes r ≡ true)

-- the bytes are the requests of these items and no more, or one of them closes the connection
abbrev pub HecEnds : List ℕ → List HttpItem → Type 0
HecEnds b items = (at : ℕ) × AreTold b items at × ((at ≡ length b) ⊎ HasClosing items)

-- what an act of the collector stores
abbrev pub hec_events : HecAct → List Event
hec_events (hec_act.StoreThenSay events) = events.items
hec_events (hec_act.SayThenStore channel events) = events.items
hec_events (hec_act.Ask channel ids) = []
hec_events (hec_act.Say say) = []

-- each request stores the events of its act
abbrev pub HecStores : Tokens → List HttpItem → List Event → Type 0
HecStores tokens [] events = events ≡ []
HecStores tokens (Continue ∷ items) events = HecStores tokens items events
HecStores tokens (Request r ∷ items) events =
    (act : HecAct) × IsAct tokens r act × (rest : List Event) × HecStores tokens items rest × (events ≡ hec_events act ++ rest)

-- The bytes have no fault and end with a frame, or one of their frames closes the connection.
abbrev pub EndsWhole : Proto → List ℕ → Type 0
EndsWhole Relp b = (frames : List Frame) × RelpEnds b frames
EndsWhole Lumberjack b = (frames : List LumberFrame) × LumberEnds b frames
EndsWhole Hec b = (items : List HttpItem) × HecEnds b items

-- What the bytes store, to their end or to the frame that closes the connection.
abbrev pub Stores : Proto → Tokens → List ℕ → List Event → Type 0
Stores Relp tokens b events = (frames : List Frame) × RelpEnds b frames × RelpStores frames events
Stores Lumberjack tokens b events = (frames : List LumberFrame) × LumberEnds b frames × LumberStores frames events
Stores Hec tokens b events = (items : List HttpItem) × HecEnds b items × HecStores tokens items events

-- ---- what the spool gains

-- Whatever a crash leaves now stands for a later state of that spool, to whose list entries of these events were added at the
-- end, and nothing else.
pub record Gains (s : SpoolState) (now : Moment) (events : List Event) : Type 0 where
  pub entries : List Entry
  pub own : events_of entries ≡ events
  pub each : (c : List ℕ) → now.image c → (t : SpoolState) × StandsFor t c × IsLater s t × Grown s entries t
