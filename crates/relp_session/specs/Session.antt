-- A session over a list of frames.
use Rattle.std.specs.Prelude.{◌≡◌, ◌↔◌, ℕ, Bool, true, false, List, [], ◌∷◌, ◌++◌, length, take, slice_get, Some}
use Rattle.std.specs.List.{All, list_any}
use Rattle.relp_frame.specs.declared.frame.Frame.{Frame}
use Rattle.relp_session.specs.declared.act.RelpAct.{RelpAct}
use Rattle.relp_session.specs.declared.act.RelpAct.TheVariants.{End}
use Rattle.relp_session.specs.declared.state.State.{State}
use Rattle.relp_session.specs.declared.state.State.TheVariants.{Unopened, Opened, Closed}
use Rattle.relp_session.specs.Request.{is_opening, is_closing}
use Rattle.relp_session.specs.State.{IsNext}
use Rattle.relp_session.specs.Answer.{IsAnswer, IsEnd}

-- One of the frames is an `open` in the version that is spoken here. The first of these is accepted
-- where it stands, since it finds the session not open.
abbrev pub opened : List Frame → Bool
opened frames = list_any is_opening frames

-- One of the frames is a `close`. The first of these ends the session where it stands.
abbrev pub closed : List Frame → Bool
closed frames = list_any is_closing frames

-- by whether there was a `close`, and whether there was an `open`
abbrev pub state_of : Bool → Bool → State
state_of true had_open = Closed
state_of false true = Opened
state_of false false = Unopened

-- how far a session is after these frames
abbrev pub state_after : List Frame → State
state_after frames = state_of (closed frames) (opened frames)

-- The acts are those of the frames: the i-th is the table's row for the i-th frame, by how far the frames
-- before it have brought the session.
pub record AreActs (frames : List Frame) (acts : List RelpAct) : Type 0 where
  pub count : length acts ≡ length frames
  pub each : (i : ℕ) (f : Frame) (act : RelpAct) → slice_get frames i ≡ Some f → slice_get acts i ≡ Some act → IsAnswer (state_after (take i frames)) f act

-- a receiver in this state answered these frames, one after another, by these acts
abbrev pub Steps : State → List Frame → List RelpAct → Type 0
Steps state [] [] = Unit {0}
Steps state [] (act ∷ acts) = ⊥
Steps state (f ∷ frames) [] = ⊥
Steps state (f ∷ frames) (act ∷ acts) = IsAnswer state f act × ((after : State) × IsNext state f after × Steps after frames acts)

-- What a new receiver answers to frames, one after another, are their acts.
abbrev pub ActsByFrames : Type 0
ActsByFrames = (frames : List Frame) (acts : List RelpAct) → Steps Unopened frames acts → AreActs frames acts

-- nothing is stored, and nothing is written
abbrev pub IsNothing : RelpAct → Type 0
IsNothing act = act ≡ End []

-- A `close` ends the list of what is done: the acts are those of the frames up to it and with it, and
-- nothing more is done, whatever frames come after it.
abbrev pub EndsAtClose : Type 0
EndsAtClose = (front : List Frame) (f : Frame) (later : List Frame) (acts : List RelpAct) → is_closing f ≡ true → Steps Unopened (front ++ f ∷ later) acts → (done : List RelpAct) × (more : List RelpAct) × (acts ≡ done ++ more) × AreActs (front ++ f ∷ []) done × All IsNothing more

-- The connection ends by an act exactly where the session is closed after it.
abbrev pub EndsWhenClosed : Type 0
EndsWhenClosed = (state : State) (f : Frame) (act : RelpAct) (after : State) → IsAnswer state f act → IsNext state f after → (IsEnd act ↔ (after ≡ Closed))

-- The state after some frames leads to the one after them and the next.
abbrev pub StateOn : Type 0
StateOn = (before : List Frame) (f : Frame) (after : State) → IsNext (state_after before) f after → after ≡ state_after (before ++ f ∷ [])

-- Frames that have opened a session have the one among them that did: an `open` in the version that is
-- spoken here, after frames that had neither opened nor closed it.
abbrev pub OpenedByOne : Type 0
OpenedByOne = (frames : List Frame) → state_after frames ≡ Opened → (i : ℕ) × (f : Frame) × (slice_get frames i ≡ Some f) × (state_after (take i frames) ≡ Unopened) × (is_opening f ≡ true)
