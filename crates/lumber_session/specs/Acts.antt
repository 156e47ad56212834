-- What a core tells its caller to do, frame by frame, and the batches that this makes.
use Rattle.std.specs.Prelude.{◌≡◌, ℕ, ◌↔◌, Bool, true, false, IsTrue, List, [], ◌∷◌, ◌++◌, map}
use Rattle.event_form.specs.declared.event.Event.{Event}
use Rattle.event_form.specs.Event.{IsEvent}
use Rattle.lumber_frame.specs.declared.frame.LumberFrame.{LumberFrame}
use Rattle.lumber_frame.specs.declared.frame.LumberFrame.TheVariants.{Window, Pairs, Json, Ack}
use Rattle.lumber_session.specs.declared.act.LumberAct.{LumberAct}
use Rattle.lumber_session.specs.declared.act.LumberAct.TheVariants.{Nothing, Stage, CommitFirst}
use Rattle.lumber_session.specs.Staged.{Staged, data_event, json_event, staged}
use Rattle.lumber_session.specs.Batches.{Ends, IsCut}

-- the act for a frame, by whether a batch ends with it
abbrev pub act_of : LumberFrame → Bool → LumberAct
act_of (Window size) true = CommitFirst
act_of (Window size) false = Nothing
act_of (Pairs seq text) ends = Stage (data_event text) seq ends
act_of (Json seq text) ends = Stage (json_event text) seq ends
act_of (Ack seq) ends = Nothing

-- The act is that of a frame after these frames.
pub record Tells (frames : List LumberFrame) (f : LumberFrame) (act : LumberAct) : Type 0 where
  pub batches : List (List LumberFrame)
  pub before : List LumberFrame
  pub rest : List LumberFrame
  pub cut : IsCut frames batches rest
  pub whole : frames ≡ before ++ rest
  pub ends : Bool
  pub exactly : IsTrue ends ↔ Ends before rest f
  pub told : act ≡ act_of f ends

-- For any frame, after any frames, there is an act, and only one.
abbrev pub OneAct : Type 0
OneAct = (frames : List LumberFrame) (f : LumberFrame) → (act : LumberAct) × Tells frames f act × ((other : LumberAct) → Tells frames f other → other ≡ act)

-- each act is that of its frame, after the frames so far and those before it
abbrev pub AreTold : List LumberFrame → List LumberFrame → List LumberAct → Type 0
AreTold before [] [] = Unit {0}
AreTold before [] (a ∷ acts) = ⊥
AreTold before (f ∷ frames) [] = ⊥
AreTold before (f ∷ frames) (a ∷ acts) = Tells before f a × AreTold (before ++ f ∷ []) frames acts

-- whether a batch is due after the act
abbrev pub commits : LumberAct → Bool
commits Nothing = false
commits (Stage event seq commit) = commit
commits CommitFirst = true

-- an event that is staged keeps the limits of events
abbrev pub StagesEvent : LumberAct → Type 0
StagesEvent Nothing = Unit {0}
StagesEvent (Stage event seq commit) = IsEvent event
StagesEvent CommitFirst = Unit {0}

-- what is stored as one batch, and the sequence number that acknowledges it
pub record Batch : Type 0 where
  pub events : List Event
  pub ack : ℕ

-- the sequence number of the last of these
abbrev pub last_seq : List Staged → ℕ
last_seq [] = 0
last_seq (s ∷ []) = s.seq
last_seq (s ∷ t ∷ more) = last_seq (t ∷ more)

-- the batch of what is staged: it is acknowledged with the sequence number of its last frame
abbrev pub batch_of : List Staged → Batch
batch_of events = record { events = map (λ s. s.event) events; ack = last_seq events }

-- what a caller stores and acknowledges that does what the acts tell, with this staged so far
abbrev pub stored : List Staged → List LumberAct → List Batch
stored so_far [] = []
stored so_far (Nothing ∷ acts) = stored so_far acts
stored so_far (Stage event seq false ∷ acts) = stored (so_far ++ record { event = event; seq = seq } ∷ []) acts
stored so_far (Stage event seq true ∷ acts) = batch_of (so_far ++ record { event = event; seq = seq } ∷ []) ∷ stored [] acts
stored so_far (CommitFirst ∷ acts) = batch_of so_far ∷ stored [] acts

-- and what is staged in the end
abbrev pub waiting : List Staged → List LumberAct → List Staged
waiting so_far [] = so_far
waiting so_far (Nothing ∷ acts) = waiting so_far acts
waiting so_far (Stage event seq false ∷ acts) = waiting (so_far ++ record { event = event; seq = seq } ∷ []) acts
waiting so_far (Stage event seq true ∷ acts) = waiting [] acts
waiting so_far (CommitFirst ∷ acts) = waiting [] acts

-- Over the frames of a connection the acts make the batches that the frames are cut into, each with its
-- acknowledgment, in order; what is staged in the end is the rest.
abbrev pub ActsMakeBatches : Type 0
ActsMakeBatches = (frames : List LumberFrame) (acts : List LumberAct) (batches : List (List LumberFrame)) (rest : List LumberFrame) → AreTold [] frames acts → IsCut frames batches rest → (stored [] acts ≡ map (λ b. batch_of (staged b)) batches) × (waiting [] acts ≡ staged rest)
