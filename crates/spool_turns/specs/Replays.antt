-- What the calls of a journal did to a desk that many callers share.
use Rattle.std.specs.Prelude.{◌≡◌, ◌⊎◌, ℕ, ◌-◌, ◌<◌, ◌≤◌, List, [], ◌∷◌, ◌++◌, All, None, false}
use Rattle.event_form.specs.declared.event.Entry.{Entry}
use Rattle.foundation.specs.Faults.{Rose}
use Rattle.spool_state.specs.SpoolState.{end}
use Rattle.edge_disk.specs.declared.disk.Disk.{Ghosts}
use Rattle.edge_disk.specs.Disk.{Moment, LeavesOnly}
use Rattle.spool_log.specs.State.{view}
use Rattle.spool_desk.specs.declared.desk.Desk.{Desk}
use Rattle.desk_access.specs.Division.{DividedRun}
use Rattle.desk_access.specs.Call.{Call, Record, NoneJoins, own_of, calls_of, failures_of, failed_of}
use Rattle.desk_access.specs.Desk.{DeskState, Goes, Stood}
use Rattle.desk_access.specs.History.{IsDesk, Was}
use Rattle.spool_desk.specs.declared.alone.Alone.{Alone}
use Rattle.spool_desk.specs.Alone.{AloneView, alone_view, alone_at, IsAt}
use Rattle.desk_access.specs.Legal.{May, Met, AddsGroups, IsOfRun, IsLegal}
use Rattle.desk_seats.specs.Passes.{Known, Stands}
use Rattle.spool_turns.specs.Passes.{Beginning}
use Rattle.spool_turns.specs.OwnEntries.{groups_by, AddsOwn}
use Rattle.spool_turns.specs.Issuing.{ids_of, AreFrom}
use Rattle.spool_turns.specs.Whole.{Keeps}

-- the disk was at this moment when the desk was given
pub record BeganAt (began m : Moment) : Type 0 where
  pub size : began.size ≡ m.size
  pub clock : began.clock ≡ m.clock
  pub since : (t : ℕ) (c : List ℕ) → m.image_since t c → began.image_since t c
  pub faults : began.faults ≡ m.faults

-- what is true of each state in which the desk may have been given
pub record Begins (tells : Type 0) (run : DividedRun) (x : DeskState) : Type 0 where
  pub told : tells
  pub rules : IsDesk x
  pub of_run : x.spool.run ≡ run.number
  pub none_held : x.ids.held ≡ []

-- From this state the calls of the journal lead to one in which the desk is then, and whenever a crash came meanwhile,
-- what it left stands for a state on the way.
pub record LeadsBy (x : DeskState) (began : Moment) (log : List Record) (new : AloneView) : Type 0 where
  pub after : DeskState
  pub goes : Goes x log after
  pub reached : IsAt after new
  pub any_moment : LeavesOnly (Stood x log) began new.spool.moment

-- From each state in which the desk may have been given, this journal leads to where it is. As often as a call of it was
-- answered that the disk failed, it did; where none was, no call of the disk failed.
pub record Replays (tells : Type 0) (start : DeskState → Type 0) (run : DividedRun) (began : Beginning) (log : List Record) (new : AloneView) : Type 0 where
  pub begins : (x : DeskState) → start x → Begins tells run x
  pub leads : (x : DeskState) → start x → LeadsBy x began.moment log new
  pub later : began.moment.faults ≤ new.spool.moment.faults
  pub cause : Rose (failed_of log) began.moment.faults new.spool.moment.faults
  pub quiet : failed_of log ≡ 0 → new.spool.moment.faults ≡ began.moment.faults
  pub size : new.spool.moment.size ≡ began.moment.size
  -- unless that was allowed, no take was stored as one group with that of another caller
  pub alone : began.grouped ≡ false → NoneJoins log
  -- no caller was told more often that the disk failed than changes failed
  pub each : (number : ℕ) → failures_of (own_of number log) ≤ failed_of log

-- The journal was really made: each of its calls is one that its caller might make, and there is a desk to which it led. Where the type
-- of disk is left open, such a desk can only be one that the program had.
abbrev pub IsReal : {D : Type 0} (disks : Ghosts D) → (DeskState → Type 0) → DividedRun → ℕ → Beginning → List Record → Type 0
IsReal {D} disks start run seats began log =
    (a : Alone D disks) × Replays disks.tells start run began log (alone_at a) × Met run (seats - 1) [] log

-- each of these calls is one that the caller of that number may make after its earlier ones
abbrev pub MayMake : DividedRun → ℕ → ℕ → List Call → List Call → Type 0
MayMake run confirming number own [] = Unit {0}
MayMake run confirming number own (call ∷ calls) = May run confirming number own call × MayMake run confirming number (own ++ call ∷ []) calls

-- a desk that nobody has asked for its end and cursor
abbrev pub desk_at : {D : Type 0} {disks : Ghosts D} → Desk D disks → AloneView
desk_at {disks = disks} d = alone_view (view d.spool.memory d.spool.doubt (disks.moment d.spool.disk)) d.ids None 0 0

-- one of the passes has that number
abbrev pub HasNumber : List Known → ℕ → Type 0
HasNumber [] number = ⊥
HasNumber (pass ∷ passes) number = (pass.number ≡ number) ⊎ HasNumber passes number

-- The desk that these passes leave, by the one journal of all their calls, from each state x in which it may have been given.
pub record Closes (tells : Type 0) (start : DeskState → Type 0) (run : DividedRun) (seats : ℕ) (began : Beginning)
    (log : List Record) (passes : List Known) (new : AloneView) : Type 0 where
  -- the journal is lawful, and led to where the desk is
  pub replays : Replays tells start run began log new
  -- Each call is one that its caller might make. The caller with the greatest number confirms.
  pub met : Met run (seats - 1) [] log
  pub each : (number : ℕ) → MayMake run (seats - 1) number [] (own_of number log)
  -- What the journal adds is legal, and so is each caller's part of it.
  pub legal : (x : DeskState) → start x → (groups : List (List Entry)) → AddsGroups (calls_of log) groups → IsLegal run.number groups
  pub own : (x : DeskState) → start x → (groups : List (List Entry)) → AddsGroups (calls_of log) groups
      → (number : ℕ) → AddsOwn run number (own_of number log) groups (groups_by number log groups)
  -- The ids that it issues are new.
  pub issued : (x : DeskState) → start x → AreFrom x.ids.next (ids_of (calls_of log)) × All (IsOfRun run.number) (ids_of (calls_of log))
  -- What a crash leaves then has all that was taken, and what it left before is a later state than that of the opening.
  pub kept : (x : DeskState) → start x → (c : List ℕ) → new.spool.moment.image c → Keeps x log c
  pub was : (x : DeskState) → start x → (c : List ℕ) → new.spool.moment.image_since began.moment.clock c → Was x (calls_of log) c
  -- What each pass has seen is a beginning of the journal, and its own calls are all that the journal has of its number.
  pub pass : All (Stands log) passes
  -- The journal has no record of another number, and where all passes are there, each record is of one of them.
  pub no_others : (number : ℕ) → seats ≤ number → own_of number log ≡ []
  pub by_passes : ((number : ℕ) → number < seats → HasNumber passes number) → All (λ (one : Record). HasNumber passes one.by) log

-- the words of the end and the cursor are those of each state that the desk may be in
abbrev pub IsExact : Type 0 → AloneView → Type 0
IsExact tells v = (x : DeskState) → tells → IsAt x v → (end x.spool ≤ v.end_known) × (x.spool.cursor ≤ v.cursor_known)
