-- Faults of reading the device again, as answers of other calls.
use Rattle.spool_faults.specs.declared.fault.TakeFault.{TakeFault}
use Rattle.spool_faults.specs.declared.fault.TakeFault.TheVariants as Take
use Rattle.spool_faults.specs.declared.fault.ConfirmFault.{ConfirmFault}
use Rattle.spool_faults.specs.declared.fault.ConfirmFault.TheVariants as Confirm
use Rattle.spool_faults.specs.declared.fault.PendFault.{PendFault}
use Rattle.spool_faults.specs.declared.fault.PendFault.TheVariants.{NotSpool, DiskFault, NoMemory}

-- the same fault of a `take`
abbrev pub as_take : PendFault → TakeFault
as_take (NotSpool at) = Take.NotSpool at
as_take DiskFault = Take.DiskFault
as_take NoMemory = Take.NoMemory

-- the same fault of a `confirm`
abbrev pub as_confirm : PendFault → ConfirmFault
as_confirm (NotSpool at) = Confirm.NotSpool at
as_confirm DiskFault = Confirm.DiskFault
as_confirm NoMemory = Confirm.NoMemory
