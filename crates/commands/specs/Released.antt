-- What `drain` may make known as confirmed, and when.
use Rattle.std.specs.Prelude.{◌≡◌, ◌⊎◌, ℕ, List, Option}
use Rattle.std.specs.Io.KnownBytes.{Appends}
use Rattle.edge_disk.specs.Disk.{Moment, LeavesOnly}
use Rattle.spool_state.specs.SpoolState.{SpoolState}
use Rattle.spool_state.specs.Image.{StandsFor}
use Rattle.desk_access.specs.Call.{Call}
use Rattle.desk_access.specs.Desk.{Stood}
use Rattle.forward_core.specs.Received.{IsReceived}
use Rattle.forward_core.specs.declared.outward.Outward.{Outward}
use Rattle.bridge_parts.specs.Opened.{desk_in}
use Rattle.bridge_parts.specs.Reached.{Reaches}
use Rattle.commands.specs.Replayed.{Keeps}
use Rattle.commands.specs.SpoolRun.{SpoolRun, WasIn}

-- The device stood for a state, and was opened as it is. From the cursor of that state on these calls were made on the spool, and led to
-- what the device holds now. Whatever a crash left meanwhile is what it could leave before, or stands for a state on their way.
pub record IsDrainedFrom (before now : Moment) (start : ℕ) (calls : List Call) : Type 0 where
  pub state : SpoolState
  pub stood : StandsFor state before.reads
  pub start_is : start ≡ state.cursor
  pub reached : Reaches state now calls
  pub any_moment : LeavesOnly (λ c. before.image c ⊎ Stood (desk_in state) reached.records c) before now

-- A number may become known as confirmed once the peer that is spoken to so has received its entry, of those that a session read from
-- the disk. `given` is the disk as it was before it was opened. Over a disk that doesn't tell what it reads nothing is said of the calls.
abbrev pub MayRelease : {D : Type 0} → Type 0 → (D → Moment) → D → Outward → (List ℕ → List ℕ → Type 0) → (ℕ → Type 0) → Type 0
MayRelease {D} tells moment given outward Exchanged Release =
    (disk : D) (n : ℕ) → IsReceived outward Exchanged (λ start calls. tells → IsDrainedFrom (moment given) (moment disk) start calls) n → Release n

-- From the cursor on these calls were made on the spool, in whatever state it was.
abbrev pub DrainsFrom : SpoolRun → ℕ → List Call → Type 0
DrainsFrom spool start calls = (s : SpoolState) → spool.disk.tells → WasIn spool s → (start ≡ s.cursor) × Keeps s spool.disk.old spool.disk.new calls

-- The same over a spool that is open, as it is then.
abbrev pub MayMark : {D : Type 0} → (D → SpoolRun) → Outward → (List ℕ → List ℕ → Type 0) → (ℕ → Type 0) → Type 0
MayMark {D} spool outward Exchanged Release = (disk : D) (n : ℕ) → IsReceived outward Exchanged (DrainsFrom (spool disk)) n → Release n

-- The output, or the link, took this text since it was the old one.
abbrev pub WasWritten : {K : Type 0} → (K → K → Type 0) → (K → Option (List ℕ)) → K → List ℕ → Type 0
WasWritten {K} same taken old text = (now : K) × same old now × Appends (taken old) (taken now) text

-- These bytes were read from the input, and this text was written to the output.
abbrev pub WereStreamed : (List ℕ → Type 0) → (List ℕ → Type 0) → List ℕ → List ℕ → Type 0
WereStreamed Read Written bytes text = Read bytes × Written text
