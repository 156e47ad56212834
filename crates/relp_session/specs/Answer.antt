-- The receiver's table: what is done for a frame, by how far the session is.
use Rattle.std.specs.Prelude.{◌≡◌, ℕ, ◌<◌, ◌≤◌, List, [], ◌∷◌, ◌++◌, length, codes}
use Rattle.event_form.specs.declared.event.Event.{Event}
use Rattle.event_form.specs.declared.event.Origin.TheVariants.{Relp}
use Rattle.event_form.specs.Event.{IsEvent}
use Rattle.relp_frame.specs.declared.frame.Frame.{Frame}
use Rattle.relp_frame.specs.Spelling.{canonical}
use Rattle.relp_session.specs.declared.act.RelpAct.{RelpAct}
use Rattle.relp_session.specs.declared.act.RelpAct.TheVariants.{Store, Say, End}
use Rattle.relp_session.specs.declared.request.Request.{Request}
use Rattle.relp_session.specs.declared.request.Request.TheVariants.{Open, OpenOther, Syslog, Close, Other}
use Rattle.relp_session.specs.declared.state.State.{State}
use Rattle.relp_session.specs.declared.state.State.TheVariants.{Unopened, Opened, Closed}
use Rattle.relp_session.specs.Request.{Asks}
use Rattle.relp_session.specs.State.{IsNext}

-- an answer repeats the transaction number, and its command is `rsp`
abbrev pub reply : ℕ → List ℕ → List ℕ
reply txnr text = canonical (record { txnr = txnr; command = codes "rsp"; body = text })

-- what is offered, a line each, after the code of success
abbrev pub offers : List ℕ
offers = codes "200 OK" ++ 10 ∷ codes "relp_version=0" ++ 10 ∷ codes "relp_software=bridge,1,local" ++ 10 ∷ codes "commands=syslog"

-- the answer once an event is durable
abbrev pub stored : ℕ → List ℕ
stored txnr = reply txnr (codes "200 OK")

-- the hint that the connection ends
abbrev pub hint : List ℕ
hint = canonical (record { txnr = 0; command = codes "serverclose"; body = [] })

-- the event that a frame brings
abbrev pub event_of : Frame → Event
event_of f = record { origin = Relp; text = f.body }

-- the table, by the state and what the frame asks for
abbrev pub act_of : State → Request → Frame → RelpAct
act_of Unopened Open f = Say (reply f.txnr offers)
act_of Unopened OpenOther f = Say (reply f.txnr (codes "500 unsupported relp_version"))
act_of Unopened Syslog f = Say (reply f.txnr (codes "500 not open"))
act_of Unopened Close f = End (reply f.txnr [] ++ hint)
act_of Unopened Other f = Say (reply f.txnr (codes "500 not open"))
act_of Opened Open f = Say (reply f.txnr (codes "500 already open"))
act_of Opened OpenOther f = Say (reply f.txnr (codes "500 already open"))
act_of Opened Syslog f = Store (event_of f) f.txnr
act_of Opened Close f = End (reply f.txnr [] ++ hint)
act_of Opened Other f = Say (reply f.txnr (codes "500 unknown command"))
-- after a `close` nothing is stored, and nothing is written
act_of Closed r f = End []

-- the act is the table's row for the frame
abbrev pub IsAnswer : State → Frame → RelpAct → Type 0
IsAnswer state f act = (r : Request) × Asks f r × (act ≡ act_of state r f)

-- an event that is stored keeps its limits
abbrev pub IsSound : RelpAct → Type 0
IsSound (Store event txnr) = IsEvent event × (txnr ≤ 999999999)
IsSound (Say text) = Unit {0}
IsSound (End text) = Unit {0}

-- a text that is to be written has bytes
abbrev pub HasText : RelpAct → Type 0
HasText (Store event txnr) = Unit {0}
HasText (Say text) = 0 < length text
HasText (End text) = 0 < length text

-- the connection ends
abbrev pub IsEnd : RelpAct → Type 0
IsEnd (Store event txnr) = ⊥
IsEnd (Say text) = ⊥
IsEnd (End text) = Unit {0}

-- exactly one value is such
abbrev pub One : {A : Type 0} → (A → Type 0) → Type 0
One {A} P = (x : A) × P x × ((y : A) → P y → y ≡ x)

-- For each frame, in each state, there is one act and one next state.
abbrev pub OneAnswer : Type 0
OneAnswer = (state : State) (f : Frame) → One (IsAnswer state f) × One (IsNext state f)
