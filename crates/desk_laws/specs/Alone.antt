-- What lasts after the calls of a desk's only caller, and what it was told.
use Rattle.std.specs.Prelude.{◌≡◌, ℕ, ◌<◌, Bool, true, false, List, [], ◌∷◌, ◌++◌, length, get_or}
use Rattle.spool_state.specs.SpoolState.{SpoolState}
use Rattle.spool_state.specs.Image.{StandsFor}
use Rattle.desk_access.specs.Call.{Call, asks, Record, AreBy}
use Rattle.desk_access.specs.Desk.{DeskState, Goes}
use Rattle.desk_access.specs.History.{IsLater, Grows, AllKept, Was}
use Rattle.desk_access.specs.Legal.{IsStored}
use Rattle.desk_access.specs.Settled.{AllSettleStored}
use Rattle.spool_desk.specs.Alone.{AloneView, IsAt, Ran}

-- Bytes stand for a later state of the spool, which has each group that the calls took, at its number or below the cursor, and whose
-- list grew by what they added.
pub record Keeps (x : DeskState) (calls : List Call) (c : List ℕ) : Type 0 where
  pub state : SpoolState
  pub stands : StandsFor state c
  pub later : IsLater x.spool state
  pub kept : AllKept state calls
  pub grows : Grows x calls state

-- So does whatever a crash leaves after the calls, which led the desk from the one moment to the other.
abbrev pub ImageIsKept : Type 0 → AloneView → AloneView → Type 0
ImageIsKept tells old new =
    (x : DeskState) (calls : List Call) → tells → IsAt x old → Ran tells old calls new → (c : List ℕ) → new.spool.moment.image c → Keeps x calls c

-- What a crash left at some moment since they began stands for a later state, with what the first of them had added.
abbrev pub ImageWas : Type 0 → AloneView → AloneView → Type 0
ImageWas tells old new =
    (x : DeskState) (calls : List Call) → tells → IsAt x old → Ran tells old calls new
    → (c : List ℕ) → new.spool.moment.image_since old.spool.moment.clock c → Was x calls c

-- These calls of one caller lead on from a state without ids, a question among them, and it settled no id before but after a take of
-- its entries: where the k-th id was answered true, one of its calls before the question is such a take.
abbrev pub ToldWasOwn : Type 0
ToldWasOwn =
    (x z : DeskState) (number : ℕ) (before after : List Call) (records : List Record) (channel : ℕ) (ids : List ℕ) (known : List Bool) (k : ℕ)
    → x.ids.held ≡ [] → Goes x records z → AreBy number (before ++ asks channel ids known ∷ after) records → AllSettleStored [] before
    → k < length ids → get_or known k false ≡ true → IsStored before (get_or ids k 0)
