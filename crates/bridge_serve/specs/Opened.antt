-- A device that was opened for storing, and the desk over it.
use Rattle.std.specs.Prelude.{◌≡◌, ◌⊎◌, ◌≤◌, ℕ, Bool, List, None}
use Rattle.edge_disk.specs.Calls.{Calls}
use Rattle.edge_disk.specs.Disk.{Moment, LeavesOnly}
use Rattle.spool_state.specs.SpoolState.{SpoolState}
use Rattle.spool_state.specs.Image.{StandsFor}
use Rattle.spool_log.specs.declared.memory.Memory.{Memory}
use Rattle.spool_log.specs.declared.opening.Opening.TheVariants.{Raise}
use Rattle.spool_log.specs.Opening.{opened, CanOpen, IsOpening, Opens}
use Rattle.spool_log.specs.State.{View, view}
use Rattle.hec_ids.specs.Table.{Table}
use Rattle.spool_desk.specs.Alone.{AloneView, alone_view}
use Rattle.desk_access.specs.Desk.{DeskState}
use Rattle.bridge_parts.specs.Opened.{desk_in}

-- The desk of a spool that was opened for storing, of a device that stood for a state: the run is raised by one, and nothing else
-- changed.
abbrev pub IsOpenedDesk : Type 0 → List ℕ → DeskState → Type 0
IsOpenedDesk tells device x = tells × (s : SpoolState) × StandsFor s device × CanOpen Raise s × (x ≡ desk_in (opened Raise s))

-- Since that clock a crash left what it could leave before the opening, or what it could during it.
abbrev pub IsSince : Type 0 → Moment → ℕ → List ℕ → Type 0
IsSince tells old t c = tells → (t ≡ old.clock → IsOpening Raise old c) × (t ≤ old.clock → old.image_since t c ⊎ IsOpening Raise old c)

-- What the disk tells as the desk was given, by what it told before the opening: no call failed meanwhile.
abbrev pub opened_at : Type 0 → Moment → ℕ → Moment
opened_at tells old clock = record {
  size = old.size;
  reads = old.reads;
  image = IsOpening Raise old;
  clock = clock;
  image_since = IsSince tells old;
  faults = old.faults;
}

-- The spool stands as it does once it was opened, from a disk that told this before: no call failed, and whatever a crash left
-- meanwhile is what it could leave as the opening began, or stands for the state with the run raised or not.
pub record IsOpenedFrom (tells : Type 0) (old : Moment) (spool : View) : Type 0 where
  pub calls : Calls ⊥ old spool.moment
  pub opens : tells → (s : SpoolState) × Opens Raise s old.reads spool
  pub any_moment : tells → LeavesOnly (IsOpening Raise old) old spool.moment

-- a desk with that spool and those ids
abbrev pub desk_over : Memory → Bool → Moment → Table → AloneView
desk_over memory in_doubt moment ids = alone_view (view memory in_doubt moment) ids None 0 0

-- The device was opened for storing, and nothing was done with the spool: whatever a crash leaves now stands for the state with the
-- run raised.
pub record IsOpenedOnly (old new : Moment) : Type 0 where
  pub state : SpoolState
  pub stood : StandsFor state old.reads
  pub could : CanOpen Raise state
  pub images : (c : List ℕ) → new.image c → StandsFor (opened Raise state) c
  pub any_moment : LeavesOnly (IsOpening Raise old) old new
