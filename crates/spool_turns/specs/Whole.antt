-- What a crash leaves of a desk after a journal, and the order of the whole list.
use Rattle.std.specs.Prelude.{◌≡◌, ◌⊎◌, ℕ, ◌*◌, ◌^◌, ◌<◌, ◌≤◌, List, ◌++◌, All}
use Rattle.event_form.specs.declared.event.Entry.{Entry}
use Rattle.spool_state.specs.SpoolState.{SpoolState, list}
use Rattle.spool_state.specs.Image.{StandsFor}
use Rattle.spool_answers.specs.Stages.{IsOneOf}
use Rattle.desk_access.specs.Call.{Record, calls_of}
use Rattle.desk_access.specs.Batch.{AreNext, IsPlain, AreOfUnit}
use Rattle.desk_access.specs.Desk.{DeskState}
use Rattle.desk_access.specs.History.{IsLater, AllKept, Grows}
use Rattle.desk_access.specs.Legal.{of_conn, AreOfOthers}

-- the entries of the unit stand together
pub record AreTogether (unit : ℕ) (entries : List Entry) : Type 0 where
  pub before : List Entry
  pub those : List Entry
  pub after : List Entry
  pub parts : entries ≡ before ++ (those ++ after)
  pub none_before : AreOfOthers unit before
  pub all : AreOfUnit unit those
  pub none_after : AreOfOthers unit after

-- A list of which the first entries may be gone: each connection's indexes rise by one from the first that stands there,
-- and the entries of an id stand together. The numbers from 2^63 on are no connection's: entries that were moved into the spool have
-- them, and of the indexes of these nothing is said.
pub record AreLegal (entries : List Entry) : Type 0 where
  pub indexes : (conn : ℕ) → conn < 2 ^ 63 → (first : ℕ) × AreNext conn first (of_conn conn entries)
  pub units : (unit : ℕ) → 2 ^ 32 ≤ unit → AreTogether unit entries

-- the entries have connections and ids of earlier runs, but for those that were moved into the spool, which have no id
pub record AreEarlier (run : ℕ) (entries : List Entry) : Type 0 where
  pub conns : All (λ (entry : Entry). (entry.conn < run * 2 ^ 32) ⊎ (2 ^ 63 ≤ entry.conn)) entries
  pub units : All (λ (entry : Entry). IsPlain entry ⊎ (entry.unit < run * 2 ^ 32)) entries

-- the list that a desk has, and each that mending may find, is legal and of earlier runs
abbrev pub OpensLegal : DeskState → Type 0
OpensLegal x = (m : SpoolState) → IsOneOf x.spool x.doubt m → AreLegal (list m) × AreEarlier x.spool.run (list m)

-- What a crash left stands for a later state. Each entry that was taken stands there, or is below the cursor; the list grew by
-- what the calls added; and it is legal, where that of the opening was.
pub record Keeps (x : DeskState) (log : List Record) (c : List ℕ) : Type 0 where
  pub state : SpoolState
  pub stands : StandsFor state c
  pub later : IsLater x.spool state
  pub kept : AllKept state (calls_of log)
  pub grows : Grows x (calls_of log) state
  pub legal : OpensLegal x → AreLegal (list state)
