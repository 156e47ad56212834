-- A spool that is open and not in doubt, before a call on it and after.
use Rattle.std.specs.Prelude.{false, []}
use Rattle.edge_disk.specs.declared.disk.Disk.{Ghosts as Disks}
use Rattle.edge_disk.specs.Disk.{Moment}
use Rattle.spool_state.specs.SpoolState.{SpoolState}
use Rattle.spool_log.specs.declared.memory.Memory.{Memory}
use Rattle.spool_log.specs.declared.spool.Spool.{Spool}
use Rattle.spool_log.specs.State.{view, IsIn}
use Rattle.bridge_parts.specs.Run.{DiskRun, disk_run}

-- what memory had of it before, and its disk
pub record SpoolRun : Type 1 where
  pub memory : Memory
  pub disk : DiskRun

abbrev pub spool_run : {D : Type 0} (tells : Type 0) (moment : D → Moment) (memory : Memory) (old new : D) → SpoolRun
spool_run tells moment memory old new = record { memory = memory; disk = disk_run tells moment old new }

-- a spool that a call was given, and the disk on which it is then
abbrev pub spool_over : {D : Type 0} {disks : Disks D} → Spool D disks → D → SpoolRun
spool_over {disks = disks} spool new = spool_run disks.tells disks.moment spool.memory spool.disk new

-- the spool was in that state
abbrev pub WasIn : SpoolRun → SpoolState → Type 0
WasIn spool s = IsIn s [] (view spool.memory false spool.disk.old)

-- a spool that is open is in that state
abbrev pub IsOpenIn : {D : Type 0} {disks : Disks D} → SpoolState → Spool D disks → Type 0
IsOpenIn {disks = disks} s spool = IsIn s [] (view spool.memory spool.doubt (disks.moment spool.disk))
