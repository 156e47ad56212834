-- What a connection does for frames of RELP of which several may be stored as one group.
use Rattle.std.specs.Prelude.{◌≡◌, ◌⊎◌, ℕ, ◌+◌, ◌<◌, ◌≤◌, List, [], ◌∷◌, ◌++◌, length, take, Ok, Err}
use Rattle.std.specs.List.{flat_map}
use Rattle.event_form.specs.declared.event.Entry.{Entry}
use Rattle.event_form.specs.declared.talk.Talk.{Talk}
use Rattle.event_form.specs.declared.talk.Talk.TheVariants as talk
use Rattle.relp_frame.specs.declared.frame.Frame.{Frame}
use Rattle.relp_session.specs.declared.act.RelpAct.TheVariants.{Store}
use Rattle.relp_session.specs.Answer.{IsAnswer, stored, hint}
use Rattle.relp_session.specs.declared.state.State.{State}
use Rattle.relp_session.specs.Session.{state_after}
use Rattle.spool_answers.specs.declared.receipt.Receipt.{Receipt}
use Rattle.spool_faults.specs.declared.fault.TakeFault.{TakeFault}
use Rattle.spool_faults.specs.declared.fault.TakeFault.TheVariants.{NoMemory}
use Rattle.spool_answers.specs.Take.{IsRefusal}
use Rattle.desk_access.specs.Call.{Call, takes}
use Rattle.desk_access.specs.Step.{frames_of, calls_of, count}
use Rattle.desk_access.specs.Protocol.{Protocol, IsNothing}
use Rattle.conn_serve.specs.Relp.{relp, talk_of, last_text}

-- In this state the frames are `syslog`s, one after another, and their events are these entries: the next ones of the connection, from
-- this index on. The unit of each is its frame's transaction number. None of the frames changes the state.
abbrev pub AreDue : ℕ → ℕ → State → List Frame → List Entry → Type 0
AreDue conn index state [] [] = Unit {0}
AreDue conn index state [] (e ∷ entries) = ⊥
AreDue conn index state (f ∷ frames) [] = ⊥
AreDue conn index state (f ∷ frames) (e ∷ entries) = IsAnswer state f (Store e.event e.unit) × (e.conn ≡ conn) × (e.index ≡ index) × AreDue conn (index + 1) state frames entries

-- the answers once the entries are durable, one each, in order
abbrev pub answers_of : List Entry → List ℕ
answers_of entries = flat_map (λ e. stored e.unit) entries

-- how many bytes the texts of the entries have
abbrev pub size_of : List Entry → ℕ
size_of [] = 0
size_of (e ∷ entries) = length e.event.text + size_of entries

-- At most so many entries. Where they are several, their texts have at most 131,136 bytes, as many as a frame has.
pub record IsRun (most : ℕ) (entries : List Entry) : Type 0 where
  pub few : length entries ≤ most
  pub short : 1 < length entries → size_of entries ≤ 131136

-- The frames bring the connection's next entries, and these are a run.
pub record BringRun (most conn : ℕ) (state : State) (index : ℕ) (frames : List Frame) (entries : List Entry) : Type 0 where
  pub due : AreDue conn index state frames entries
  pub run : IsRun most entries

-- A run was stored as one group, and then each of its frames was answered, in order.
pub record CarriesRun (most conn : ℕ) (state : State) (index : ℕ) (frames : List Frame) (calls : List Call) (text : List ℕ) : Type 0 where
  pub entries : List Entry
  pub some : 0 < length entries
  pub brings : BringRun most conn state index frames entries
  pub receipt : Receipt
  pub stores : calls ≡ takes entries (Ok receipt) ∷ []
  pub says : text ≡ answers_of entries

-- the text that is due for a run once its take was answered: the answers; or after a refusal, which is that of one entry, the hint
abbrev pub IsDueFor : List Entry → List Call → List ℕ → Type 0
IsDueFor entries late text =
    ((receipt : Receipt) × (late ≡ takes entries (Ok receipt) ∷ []) × (text ≡ answers_of entries))
    ⊎ ((fault : TakeFault) × IsRefusal fault × (length entries ≡ 1) × (late ≡ takes entries (Err fault) ∷ []) × (text ≡ hint))

-- The connection ends at a run: what was due wasn't wholly written; or the run wasn't stored, whole or in part. A refusal is that of
-- one entry.
abbrev pub EndsAtRun : List Entry → List Call → List ℕ → Talk → Type 0
EndsAtRun entries late part talk.WriteFault = (text : List ℕ) × (k : ℕ) × IsDueFor entries late text × (k < length text) × (part ≡ take k text)
EndsAtRun entries late part talk.NoMemory =
    (fault : TakeFault) × ((IsRefusal fault × (length entries ≡ 1)) ⊎ (fault ≡ NoMemory)) × (late ≡ takes entries (Err fault) ∷ []) × (part ≡ [])
EndsAtRun entries late part talk =
    (fault : TakeFault) × (IsRefusal fault → length entries ≡ 1) × (late ≡ takes entries (Err fault) ∷ []) × (talk ≡ talk_of fault) × (part ≡ last_text fault)

-- the frames held and the next one are a run, and the connection ends at it
abbrev pub StopsAtRun : ℕ → ℕ → State → ℕ → List Frame → List Call → List ℕ → Talk → Type 0
StopsAtRun most conn state index frames late part talk = (entries : List Entry) × BringRun most conn state index frames entries × EndsAtRun entries late part talk

-- RELP, on the connection of this number, where `syslog`s that stand one after another are stored as one group: so many at most, and
-- several of them only where their texts have at most 131,136 bytes. A step is for one frame, as `relp` has it, or for a run. The frames
-- held are a run that isn't stored yet; where the connection ends otherwise than at that run none is held.
abbrev pub relp_runs : ℕ → ℕ → Protocol Frame
relp_runs most conn = record {
  IsFront = (relp conn).IsFront;
  IsWhole = (relp conn).IsWhole;
  IsFaulty = (relp conn).IsFaulty;
  IsMove = λ before s. (relp conn).IsMove before s ⊎ CarriesRun most conn (state_after (frames_of before)) (count (calls_of before)) s.frames s.calls s.text;
  AreHeld = λ before held. (entries : List Entry) × BringRun most conn (state_after (frames_of before)) (count (calls_of before)) held entries;
  MayGiveUp = λ before held. held ≡ [];
  Stops = λ before held f late part talk. ((held ≡ []) × (relp conn).Stops before held f late part talk)
      ⊎ StopsAtRun most conn (state_after (frames_of before)) (count (calls_of before)) (held ++ f ∷ []) late part talk;
  IsLastMove = λ before held over late part. (held ≡ []) × IsNothing late part;
  StopsLast = λ before held over late part talk. ⊥;
}
