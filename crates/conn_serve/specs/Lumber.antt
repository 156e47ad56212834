-- What a connection does for the frames of Lumberjack.
use Rattle.std.specs.Prelude.{◌≡◌, ℕ, ◌+◌, ◌<◌, ◌^◌, List, [], ◌∷◌, ◌++◌, length, take, Ok, Err}
use Rattle.event_form.specs.declared.event.Entry.{Entry}
use Rattle.event_form.specs.declared.talk.Talk.{Talk}
use Rattle.event_form.specs.declared.talk.Talk.TheVariants.{WriteFault}
use Rattle.lumber_frame.specs.declared.frame.LumberFrame.{LumberFrame}
use Rattle.lumber_frame.specs.declared.side.Side.TheVariants.{Receiver}
use Rattle.lumber_frame.specs.Reading.{receiver}
use Rattle.lumber_frame.specs.Spelling.{Spells, ack_text}
use Rattle.lumber_frame.specs.Why.{why_of}
use Rattle.lumber_session.specs.Staged.{Staged, staged}
use Rattle.lumber_session.specs.Acts.{last_seq}
use Rattle.lumber_session.specs.Batches.{EndsNowhere, IsBatch}
use Rattle.spool_answers.specs.declared.receipt.Receipt.{Receipt}
use Rattle.spool_faults.specs.declared.fault.TakeFault.{TakeFault}
use Rattle.desk_access.specs.Call.{Call, takes}
use Rattle.desk_access.specs.Step.{frames_of, calls_of, count}
use Rattle.desk_access.specs.Protocol.{Protocol, IsNothing}
use Rattle.conn_serve.specs.Front.{IsFront, IsWholeBy, IsFaultyBy}
use Rattle.conn_serve.specs.Relp.{entry_of, talk_of}

-- the entries of staged events of the connection, which has that many entries before them
abbrev pub entries_of : ℕ → ℕ → List Staged → List Entry
entries_of conn index [] = []
entries_of conn index (s ∷ more) = entry_of conn index s.seq s.event ∷ entries_of conn (index + 1) more

-- these entries were taken as one group, and their batch was acknowledged with this number of four bytes
abbrev pub StoresGroup : List Entry → ℕ → List Call → List ℕ → Type 0
StoresGroup group seq calls text = (receipt : Receipt) × (calls ≡ takes group (Ok receipt) ∷ []) × (text ≡ ack_text seq) × (seq < 2 ^ 32)

-- the connection ends at that: the group was taken and its acknowledgment wasn't wholly written, or it
-- wasn't taken, and nothing was written
abbrev pub EndsAtGroup : List Entry → ℕ → List Call → List ℕ → Talk → Type 0
EndsAtGroup group seq late part WriteFault =
    (receipt : Receipt) × (k : ℕ) × (late ≡ takes group (Ok receipt) ∷ []) × (k < length (ack_text seq)) × (part ≡ take k (ack_text seq))
    × (seq < 2 ^ 32)
EndsAtGroup group seq late part talk = (fault : TakeFault) × (late ≡ takes group (Err fault) ∷ []) × (talk ≡ talk_of fault) × (part ≡ [])

-- what is staged is stored as one batch, and acknowledged with the sequence number of its last frame
abbrev pub StoresBatch : ℕ → ℕ → List Staged → List Call → List ℕ → Type 0
StoresBatch conn index events = StoresGroup (entries_of conn index events) (last_seq events)

abbrev pub EndsAtBatch : ℕ → ℕ → List Staged → List Call → List ℕ → Talk → Type 0
EndsAtBatch conn index events = EndsAtGroup (entries_of conn index events) (last_seq events)

-- where the input is over, what is staged is stored, if anything is
abbrev pub StoresLast : ℕ → ℕ → List Staged → List Call → List ℕ → Type 0
StoresLast conn index [] calls text = IsNothing calls text
StoresLast conn index (s ∷ more) calls text = StoresBatch conn index (s ∷ more) calls text

-- Lumberjack, on the connection of this number. A step is for one batch: its data frames, and the window
-- frames that stand among them. The frames held are those after the last batch. The index of an entry
-- counts those that were taken before.
abbrev pub lumberjack : ℕ → Protocol LumberFrame
lumberjack conn = record {
  IsFront = IsFront (Spells Receiver);
  IsWhole = IsWholeBy receiver;
  IsFaulty = IsFaultyBy receiver (λ e. e.at) (λ e. why_of e.why);
  IsMove = λ before s. IsBatch (frames_of before) s.frames × StoresBatch conn (count (calls_of before)) (staged s.frames) s.calls s.text;
  AreHeld = λ before held. EndsNowhere (frames_of before) held;
  MayGiveUp = λ before held. Unit {0};
  Stops = λ before held f late part talk. IsBatch (frames_of before) (held ++ f ∷ [])
      × EndsAtBatch conn (count (calls_of before)) (staged (held ++ f ∷ [])) late part talk;
  IsLastMove = λ before held over. StoresLast conn (count (calls_of before)) (staged held);
  StopsLast = λ before held over late part talk. (0 < length (staged held)) × EndsAtBatch conn (count (calls_of before)) (staged held) late part talk;
}
