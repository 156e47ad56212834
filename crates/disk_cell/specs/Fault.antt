-- When a register answers a fault.
use Rattle.std.specs.Prelude.{◌≡◌, ℕ, ◌<◌, List}
use Rattle.spool_state.specs.Layout.{most_number}
use Rattle.spool_state.specs.Cells.{CellsBreak}
use Rattle.spool_faults.specs.declared.fault.PendFault.{PendFault}
use Rattle.spool_faults.specs.declared.fault.PendFault.TheVariants as Pend
use Rattle.disk_cell.specs.declared.fault.LoadFault.{LoadFault}
use Rattle.disk_cell.specs.declared.fault.LoadFault.TheVariants.{NotSpool, NoMemory, DiskFault as LoadFailed}
use Rattle.disk_cell.specs.declared.fault.SetFault.{SetFault}
use Rattle.disk_cell.specs.declared.fault.SetFault.TheVariants.{Worn, DiskFault as SetFailed}

-- where it is no spool, a rule of the cells is broken at that place
abbrev pub IsBroken : LoadFault → List ℕ → Type 0
IsBroken (NotSpool at) c = CellsBreak at c
IsBroken NoMemory c = Unit
IsBroken LoadFailed c = Unit

-- it is worn with this ordinal exactly where that is the last one
abbrev pub IsWornAt : ℕ → SetFault → Type 0
IsWornAt ordinal (Worn at) = (ordinal ≡ most_number) × (at ≡ ordinal)
IsWornAt ordinal SetFailed = ordinal < most_number

-- the same fault of a reading of the spool
abbrev pub of_load : LoadFault → PendFault
of_load (NotSpool at) = Pend.NotSpool at
of_load LoadFailed = Pend.DiskFault
of_load NoMemory = Pend.NoMemory
