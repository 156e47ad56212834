-- Faults of what lies below, as faults of an opening.
use Rattle.disk_cell.specs.declared.fault.SetFault.{SetFault}
use Rattle.disk_cell.specs.declared.fault.SetFault.TheVariants as Set
use Rattle.spool_log.specs.declared.fault.RecoverFault.{RecoverFault}
use Rattle.spool_log.specs.declared.fault.RecoverFault.TheVariants as Recover
use Rattle.spool_faults.specs.declared.fault.PendFault.{PendFault}
use Rattle.spool_faults.specs.declared.fault.PendFault.TheVariants.{NotSpool, DiskFault, NoMemory}

-- the same fault of an opening
abbrev pub as_recover : PendFault → RecoverFault
as_recover (NotSpool at) = Recover.NotSpool at
as_recover DiskFault = Recover.DiskFault
as_recover NoMemory = Recover.NoMemory

-- the same fault of the register
abbrev pub of_set : SetFault → RecoverFault
of_set (Set.Worn ordinal) = Recover.Worn ordinal
of_set Set.DiskFault = Recover.DiskFault
