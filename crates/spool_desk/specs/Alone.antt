-- A desk with one caller.
use Rattle.std.specs.Prelude.{◌≡◌, false, ℕ, ◌^◌, ◌≤◌, List, [], ◌∷◌, Option, Result, Ok, Err}
use Rattle.foundation.specs.Faults.{Rose}
use Rattle.spool_state.specs.SpoolState.{SpoolState, end}
use Rattle.spool_faults.specs.declared.fault.PendFault.{PendFault}
use Rattle.edge_disk.specs.declared.disk.Disk.{Ghosts}
use Rattle.edge_disk.specs.Disk.{LeavesOnly}
use Rattle.spool_log.specs.State.{View, view, IsIn}
use Rattle.hec_ids.specs.Table.{Table}
use Rattle.hec_ids.specs.Rows.{opened}
use Rattle.desk_access.specs.declared.standing.Standing.{Standing}
use Rattle.spool_desk.specs.declared.alone.Alone.{Alone}
use Rattle.spool_desk.specs.Standing.{standing_in}
use Rattle.desk_access.specs.Call.{Call, Record, AreBy, failed_of}
use Rattle.desk_access.specs.Desk.{DeskState, desk_of, Finds, StaysDoubtful, Goes, Stood}
use Rattle.desk_access.specs.History.{IsDesk}

-- The desk at a moment: its spool and its ids, the numbers that the last call met, and the greatest end and cursor
-- that were answered.
pub record AloneView : Type 1 where
  pub spool : View
  pub ids : Table
  pub met : Option Standing
  pub end_known : ℕ
  pub cursor_known : ℕ

abbrev pub alone_view : View → Table → Option Standing → ℕ → ℕ → AloneView
alone_view spool ids met end_known cursor_known = record { spool = spool; ids = ids; met = met; end_known = end_known; cursor_known = cursor_known }

-- a table of that run that holds no id
abbrev pub HoldsNone : ℕ → Table → Type 0
HoldsNone run ids = (first : ℕ) × (first ≤ 2 ^ 32) × (ids ≡ opened run first)

-- The desk is in this state.
pub record IsAt (x : DeskState) (v : AloneView) : Type 0 where
  pub rules : IsDesk x
  pub spool : IsIn x.spool x.doubt v.spool
  pub ids : x.ids ≡ v.ids
  pub end_known : v.end_known ≤ end x.spool
  pub cursor_known : v.cursor_known ≤ x.spool.cursor

-- From this state the calls of the records lead to one in which the desk is then, and whenever a crash came meanwhile,
-- what it left stands for a state on the way.
pub record LeadsFrom (x : DeskState) (old : AloneView) (records : List Record) (new : AloneView) : Type 0 where
  pub after : DeskState
  pub goes : Goes x records after
  pub reached : IsAt after new
  pub any_moment : LeavesOnly (Stood x records) old.spool.moment new.spool.moment

-- The calls of these records lead from the one moment to the other. As often as they were answered that the disk
-- failed, it did; where none was, no call of the disk failed.
pub record RunsTo (tells : Type 0) (old : AloneView) (records : List Record) (new : AloneView) : Type 0 where
  pub leads : (x : DeskState) → tells → IsAt x old → LeadsFrom x old records new
  pub size : new.spool.moment.size ≡ old.spool.moment.size
  pub later : old.spool.moment.faults ≤ new.spool.moment.faults
  pub cause : Rose (failed_of records) old.spool.moment.faults new.spool.moment.faults
  pub quiet : failed_of records ≡ 0 → new.spool.moment.faults ≡ old.spool.moment.faults
  pub end_rises : old.end_known ≤ new.end_known
  pub cursor_rises : old.cursor_known ≤ new.cursor_known

-- The calls of the desk's only caller lead from the one moment to the other: with their numbers they are records.
pub record Ran (tells : Type 0) (old : AloneView) (calls : List Call) (new : AloneView) : Type 0 where
  pub records : List Record
  pub by : AreBy 0 calls records
  pub runs : RunsTo tells old records new

-- the record of a call as it stands after it
abbrev pub record_of : Call → AloneView → Record
record_of call v = record { by = 0; call = call; joins = false; met = v.met; after = standing_in v.spool.memory; clock = v.spool.moment.clock }

-- one call, and its record
abbrev pub Makes : Type 0 → AloneView → Call → AloneView → Type 0
Makes tells old call new = RunsTo tells old (record_of call new ∷ []) new

-- What mending came to, for a call that mends first: the desk is in a state that the call met, with no doubt; or it
-- stays as it is. Nothing was written.
abbrev pub Mended : DeskState → Result Unit PendFault → AloneView → AloneView → Type 0
Mended x (Ok done) old new = (m : SpoolState) × Finds x new.met m × IsAt (desk_of m [] x.ids) new × LeavesOnly old.spool.moment.image old.spool.moment new.spool.moment
Mended x (Err fault) old new = StaysDoubtful x new.met fault x × IsAt x new × LeavesOnly old.spool.moment.image old.spool.moment new.spool.moment

-- From that state at its beginning, this journal leads to where the desk is.
pub record HasSeen (tells : Type 0) (x : DeskState) (journal : List Record) (v : AloneView) : Type 0 where
  pub told : tells
  pub rules : IsDesk x
  pub found : DeskState
  pub goes : Goes x journal found
  pub here : IsAt found v

-- a desk with one caller, as it is at the moment of its disk
abbrev pub alone_at : {D : Type 0} {disks : Ghosts D} → Alone D disks → AloneView
alone_at {disks = disks} a = alone_view (view a.desk.spool.memory a.desk.spool.doubt (disks.moment a.desk.spool.disk)) a.desk.ids a.met a.end_told a.cursor_told
