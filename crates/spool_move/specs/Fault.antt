-- Faults of the calls of both spools, as faults of a move.
use Rattle.spool_faults.specs.declared.fault.PendFault.{PendFault}
use Rattle.spool_faults.specs.declared.fault.PendFault.TheVariants as Pend
use Rattle.spool_faults.specs.declared.fault.ConfirmFault.{ConfirmFault}
use Rattle.spool_faults.specs.declared.fault.ConfirmFault.TheVariants as Confirm
use Rattle.spool_move.specs.declared.fault.MoveFault.{MoveFault}
use Rattle.spool_move.specs.declared.fault.MoveFault.TheVariants.{Worn, NotSpool, SourceFault, TargetFault, NoMemory}

-- of a reading of the source
abbrev pub of_source : PendFault → MoveFault
of_source (Pend.NotSpool at) = NotSpool at
of_source Pend.DiskFault = SourceFault
of_source Pend.NoMemory = NoMemory

-- of a reading of the target
abbrev pub of_target : PendFault → MoveFault
of_target (Pend.NotSpool at) = NotSpool at
of_target Pend.DiskFault = TargetFault
of_target Pend.NoMemory = NoMemory

-- of the source's confirm
abbrev pub of_confirm : ConfirmFault → MoveFault
of_confirm (Confirm.Worn ordinal) = Worn ordinal
of_confirm (Confirm.NotSpool at) = NotSpool at
of_confirm Confirm.DiskFault = SourceFault
of_confirm Confirm.NoMemory = NoMemory
