-- What a spool that is open tells.
use Rattle.std.specs.Prelude.{[]}
use Rattle.edge_disk.specs.declared.disk.Disk.{Ghosts as Disks}
use Rattle.spool_state.specs.SpoolState.{SpoolState}
use Rattle.spool_log.specs.declared.spool.Spool.{Spool}
use Rattle.spool_log.specs.State.{view, IsIn}
use Rattle.bridge_parts.specs.Run.{DiskRun, disk_run}

-- it is in that state
abbrev pub IsOpenIn : {D : Type 0} {disks : Disks D} → SpoolState → Spool D disks → Type 0
IsOpenIn {disks = disks} s spool = IsIn s [] (view spool.memory spool.doubt (disks.moment spool.disk))

-- its disk, as it was before and as it is then
abbrev pub disk_of : {D : Type 0} {disks : Disks D} → Spool D disks → Spool D disks → DiskRun
disk_of {disks = disks} old new = disk_run disks.tells disks.moment old.disk new.disk
