-- What a session of Lumberjack has served.
use Rattle.std.specs.Prelude.{◌≡◌, ◌⊎◌, ◌<◌, ℕ, List, [], ◌∷◌, length, false}
use Rattle.std.specs.List.{All}
use Rattle.event_form.specs.declared.event.Entry.{Entry}
use Rattle.event_form.specs.declared.talk.Talk.{Talk}
use Rattle.event_form.specs.declared.talk.Talk.TheVariants.{NoMemory}
use Rattle.lumber_frame.specs.declared.frame.LumberFrame.{LumberFrame}
use Rattle.lumber_session.specs.Counting.{Core, IsBehind}
use Rattle.lumber_session.specs.Staged.{Staged, staged}
use Rattle.lumber_session.specs.declared.act.LumberAct.{LumberAct}
use Rattle.lumber_session.specs.declared.act.LumberAct.TheVariants.{Nothing, Stage, CommitFirst}
use Rattle.lumber_session.specs.Acts.{last_seq}
use Rattle.desk_access.specs.Call.{Call}
use Rattle.desk_access.specs.Step.{count}
use Rattle.desk_access.specs.Protocol.{IsNothing}
use Rattle.conn_serve.specs.Groups.{IsFrameEntry}
use Rattle.conn_serve.specs.Handled.{Handled}
use Rattle.conn_serve.specs.Lumber.{lumberjack, entries_of}

-- what an act stages
abbrev pub stages : LumberAct → List Staged
stages Nothing = []
stages (Stage event seq commit) = record { event = event; seq = seq } ∷ []
stages CommitFirst = []

-- the sequence number of the last frame staged, after one that was the last before
abbrev pub last_behind : ℕ → List Staged → ℕ
last_behind last [] = last
last_behind last (s ∷ more) = last_seq (s ∷ more)

-- These frames were served by these calls and this text: the steps are their batches, and what the frames
-- held stage are the entries, the last with this sequence number.
pub record Handles (conn : ℕ) (core : Core) (entries : List Entry) (last : ℕ) (frames : List LumberFrame) (calls : List Call) (text : List ℕ) : Type 0 where
  pub handled : Handled (lumberjack conn) frames calls text
  pub behind : IsBehind frames core
  pub ready : core.due ≡ false
  pub entries_are : entries ≡ entries_of conn (count calls) (staged handled.held)
  pub last_is : 0 < length (staged handled.held) → last ≡ last_seq (staged handled.held)
  pub limits : All IsFrameEntry entries

-- After what was handled, a frame is not carried: nothing was done for want of memory, or the connection
-- ends at it.
abbrev pub HaltsAtFrame : ℕ → Core → List Entry → ℕ → ℕ → LumberFrame → Talk → List Call → List ℕ → Type 0
HaltsAtFrame conn core entries last taken f talk late part =
    (IsNothing late part × (talk ≡ NoMemory))
    ⊎ ((frames : List LumberFrame) (called : List Call) (said : List ℕ) → taken ≡ count called
    → (h : Handles conn core entries last frames called said) → (lumberjack conn).Stops h.handled.steps h.handled.held f late part talk)
