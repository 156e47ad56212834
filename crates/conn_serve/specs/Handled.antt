-- What a session has read and done so far, and where its input is over, by any protocol.
use Rattle.std.specs.Prelude.{◌≡◌, ℕ, ◌<◌, List, [], ◌++◌, length, Option, Some, None}
use Rattle.event_form.specs.declared.talk.Talk.{Talk}
use Rattle.stream_grammar.specs.Reading.{Format, Window, Reads, Gives}
use Rattle.desk_access.specs.Call.{Call}
use Rattle.desk_access.specs.Step.{Step, frames_of, calls_of, text_of}
use Rattle.desk_access.specs.Protocol.{Protocol, AreMoves}
use Rattle.desk_access.specs.Carried.{IsOver}

-- no frame waits in the window, and there is room for more bytes
pub record IsIdle {E : Type 0} (room : ℕ) (window : Window E) : Type 0 where
  pub none : window.whole ≡ []
  pub space : length window.rest < room

-- the next frame is given, and no longer waits; or none waits
abbrev pub GivesNext : {F E : Type 0} → Format F E → (F → List ℕ → Type 0) → ℕ → Window E → Option F → Window E → Type 0
GivesNext format Spells room old None new = IsIdle room old × (new ≡ old)
GivesNext format Spells room old (Some f) new = Gives format Spells old f new

-- the window has read these frames, but for those that wait, and met this fault
pub record ReadBy {F E : Type 0} (format : Format F E) (Spells : F → List ℕ → Type 0) (window : Window E) (fault : Option E) (b : List ℕ)
    (frames : List F) : Type 0 where
  pub reads : Reads format Spells b frames window
  pub told : fault ≡ window.fault

-- These frames were served by these calls and this text: the first are those of the steps, and the others are held.
pub record Handled {F : Type 0} (p : Protocol F) (frames : List F) (calls : List Call) (text : List ℕ) : Type 0 where
  pub steps : List (Step F)
  pub each : AreMoves p [] steps
  pub held : List F
  pub kept : p.AreHeld steps held
  pub whole : frames ≡ frames_of steps ++ held
  pub made : calls ≡ calls_of steps
  pub wrote : text ≡ text_of steps

-- Of these bytes all whole frames were served but those that wait. Reads says which frames the bytes are without
-- those, and Handles what was done for them.
pub record Served {F : Type 0} (Handles : List F → List Call → List ℕ → Type 0) (Reads : List ℕ → List F → Type 0) (b : List ℕ) (calls : List Call)
    (text : List ℕ) : Type 0 where
  pub frames : List F
  pub handled : Handles frames calls text
  pub reads : Reads b frames

-- These bytes were served, the input is over, and would end the connection so: what is to be done for that is still
-- to be done. `left` is what the input has left, where it says so.
pub record Closing {F : Type 0} (p : Protocol F) (Handles : List F → List Call → List ℕ → Type 0) (left : Option (List ℕ)) (over : Talk) (b : List ℕ)
    (calls : List Call) (text : List ℕ) : Type 0 where
  pub frames : List F
  pub handled : Handles frames calls text
  pub at : ℕ
  pub front : p.IsFront b frames at
  pub is_over : IsOver p left b frames at over
