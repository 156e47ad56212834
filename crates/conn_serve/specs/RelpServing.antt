-- What a session of RELP has served, and what its functions do for a frame and for a run.
use Rattle.std.specs.Prelude.{◌≡◌, ◌⊎◌, ℕ, ◌+◌, ◌<◌, ◌≤◌, List, [], ◌∷◌, ◌++◌, length, take, drop, All, Option, Ok}
use Rattle.relp_frame.specs.Spelling.{IsSpelling}
use Rattle.event_form.specs.declared.event.Event.{Event}
use Rattle.event_form.specs.declared.event.Entry.{Entry}
use Rattle.event_form.specs.declared.talk.Talk.{Talk}
use Rattle.event_form.specs.declared.talk.Talk.TheVariants.{WriteFault, NoMemory}
use Rattle.relp_frame.specs.declared.frame.Frame.{Frame}
use Rattle.relp_session.specs.declared.act.RelpAct.{RelpAct}
use Rattle.relp_session.specs.declared.act.RelpAct.TheVariants.{Store}
use Rattle.relp_session.specs.Answer.{IsAnswer, hint}
use Rattle.relp_session.specs.declared.state.State.{State}
use Rattle.relp_session.specs.Session.{state_after}
use Rattle.spool_answers.specs.declared.receipt.Receipt.{Receipt}
use Rattle.spool_faults.specs.declared.fault.TakeFault.{TakeFault}
use Rattle.spool_answers.specs.Take.{IsRefusal}
use Rattle.desk_access.specs.Batch.{AreNext}
use Rattle.desk_access.specs.Call.{Call, takes}
use Rattle.desk_access.specs.Protocol.{IsNothing}
use Rattle.desk_access.specs.Carried.{Carried}
use Rattle.conn_serve.specs.Front.{IsFront}
use Rattle.conn_serve.specs.Groups.{IsFrameEntry}
use Rattle.conn_serve.specs.Handled.{Handled}
use Rattle.conn_serve.specs.Relp.{talk_of, last_text, EndsAtAct}
use Rattle.conn_serve.specs.Runs.{relp_runs, answers_of, size_of, IsRun, IsDueFor, EndsAtRun}
use Rattle.conn_serve.specs.Says.{HasCarried}

-- These frames were served by these calls and this text, but for those held, which bring these entries.
pub record Holds (most conn : ℕ) (entries : List Entry) (frames : List Frame) (calls : List Call) (text : List ℕ) : Type 0 where
  pub handled : Handled (relp_runs most conn) frames calls text
  pub entries_are : entries ≡ handled.kept.0

-- and after them the session is that far
pub record Handles (most conn : ℕ) (state : State) (entries : List Entry) (frames : List Frame) (calls : List Call) (text : List ℕ) : Type 0 where
  pub holds : Holds most conn entries frames calls text
  pub state_is : state ≡ state_after frames

-- The entries are a run, and the connection's next ones.
pub record IsStaged (most conn taken : ℕ) (entries : List Entry) : Type 0 where
  pub run : IsRun most entries
  pub next : AreNext conn taken entries

-- an entry whose text has that many bytes may go on with the run
pub record HasRoom (most : ℕ) (entries : List Entry) (size : ℕ) : Type 0 where
  pub few : length entries < most
  pub short : 0 < length entries → size_of entries + size ≤ 131136

-- The first so many of the entries were stored as one group and answered, and the others are staged still.
pub record StoresFront (entries left : List Entry) (calls : List Call) (text : List ℕ) : Type 0 where
  pub many : ℕ
  pub some : 0 < many
  pub few : many ≤ length entries
  pub receipt : Receipt
  pub stores : calls ≡ takes (take many entries) (Ok receipt) ∷ []
  pub says : text ≡ answers_of (take many entries)
  pub rest : left ≡ drop many entries

-- the text that is due once a take of the first of the entries was answered
pub record IsDueForFront (entries : List Entry) (calls : List Call) (text : List ℕ) : Type 0 where
  pub many : ℕ
  pub some : 0 < many
  pub few : many ≤ length entries
  pub due : IsDueFor (take many entries) calls text

-- the connection ends at a take of the first of the entries
pub record EndsAtFront (entries : List Entry) (talk : Talk) (late : List Call) (part : List ℕ) : Type 0 where
  pub many : ℕ
  pub some : 0 < many
  pub few : many ≤ length entries
  pub ends : EndsAtRun (take many entries) late part talk

-- whatever bytes begin with these frames, a connection that read them has carried this, and ends so
abbrev pub EndsWithin : ℕ → ℕ → Talk → List Frame → List Call → List ℕ → Type 0
EndsWithin most conn talk frames calls text = (left : Option (List ℕ)) (b : List ℕ) (at : ℕ) → IsFront IsSpelling b frames at → Carried (relp_runs most conn) left b calls text talk

-- or ends there in some way
abbrev pub CouldEndWithin : ℕ → ℕ → List Frame → List Call → List ℕ → Type 0
CouldEndWithin most conn frames calls text = (b : List ℕ) (at : ℕ) → IsFront IsSpelling b frames at → HasCarried (Carried (relp_runs most conn)) b calls text

-- Frames, and how many events runs of them may have.
pub record Course : Type 0 where
  pub most : ℕ
  pub frames : List Frame

-- of a course the frames were served but for those held, which bring these entries
abbrev pub HoldsOf : ℕ → List Entry → Course → List Call → List ℕ → Type 0
HoldsOf conn entries course = Holds course.most conn entries course.frames

-- and of it a connection has carried this, and ends so, whatever bytes begin with its frames; or ends there in some way
abbrev pub EndsOf : ℕ → Talk → Course → List Call → List ℕ → Type 0
EndsOf conn talk course = EndsWithin course.most conn talk course.frames

abbrev pub CouldEndOf : ℕ → Course → List Call → List ℕ → Type 0
CouldEndOf conn course = CouldEndWithin course.most conn course.frames

-- where the next frame is a `syslog` with this event and that transaction number, it is held too
abbrev pub HoldsNext : ℕ → ℕ → List Entry → Event → ℕ → List Frame → List Call → List ℕ → Type 0
HoldsNext most conn entries event txnr frames calls text = (f : Frame) → IsAnswer (state_after frames) f (Store event txnr) → Holds most conn entries (frames ++ f ∷ []) calls text

-- a take was answered with this fault: what is written then, and how the connection ends
abbrev pub EndsByFault : TakeFault → List ℕ → Talk → Type 0
EndsByFault fault part talk =
    ((talk ≡ talk_of fault) × (part ≡ last_text fault))
    ⊎ (IsRefusal fault × (talk ≡ WriteFault) × ((k : ℕ) × (k < length hint) × (part ≡ take k hint)))
    ⊎ (IsRefusal fault × (talk ≡ NoMemory) × (part ≡ []))

-- an act was not carried whole: nothing was done for want of memory, or the connection ends at its frame
abbrev pub HaltsAtAct : ℕ → ℕ → RelpAct → Talk → List Call → List ℕ → Type 0
HaltsAtAct conn index act talk late part = (IsNothing late part × (talk ≡ NoMemory)) ⊎ EndsAtAct conn index act late part talk

-- nothing is to be stored
abbrev pub StoresNothing : RelpAct → Type 0
StoresNothing (Store event txnr) = ⊥
StoresNothing act = Unit {0}

-- What is kept of a run: its entries keep their limits, their answers are spelled, and their texts have no more bytes than were
-- counted.
pub record IsReady (entries : List Entry) (answers : List ℕ) (size : ℕ) : Type 0 where
  pub limits : All IsFrameEntry entries
  pub spelled : answers ≡ answers_of entries
  pub counted : size_of entries ≤ size
