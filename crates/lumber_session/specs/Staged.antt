-- What data frames stage.
use Rattle.std.specs.Prelude.{ℕ, List, [], ◌∷◌, ◌++◌, length, sum_by}
use Rattle.event_form.specs.declared.event.Event.{Event}
use Rattle.event_form.specs.declared.event.Origin.TheVariants.{LumberData, LumberJson}
use Rattle.lumber_frame.specs.declared.frame.LumberFrame.{LumberFrame}
use Rattle.lumber_frame.specs.declared.frame.LumberFrame.TheVariants.{Window, Pairs, Json, Ack}

-- an event, and the sequence number of its frame
pub record Staged : Type 0 where
  pub event : Event
  pub seq : ℕ

-- the event of a D frame: its pairs as they stand
abbrev pub data_event : List ℕ → Event
data_event text = record { origin = LumberData; text = text }

-- the event of a J frame: its payload
abbrev pub json_event : List ℕ → Event
json_event text = record { origin = LumberJson; text = text }

-- what a frame stages
abbrev pub staged_by : LumberFrame → List Staged
staged_by (Window size) = []
staged_by (Pairs seq text) = record { event = data_event text; seq = seq } ∷ []
staged_by (Json seq text) = record { event = json_event text; seq = seq } ∷ []
staged_by (Ack seq) = []

-- what frames stage, in order
abbrev pub staged : List LumberFrame → List Staged
staged [] = []
staged (f ∷ fs) = staged_by f ++ staged fs

-- how many bytes the texts of events have
abbrev pub bytes_of : List Staged → ℕ
bytes_of events = sum_by (λ s. length s.event.text) events
