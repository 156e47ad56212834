-- Why a group was not added, and why a slot was not read.
use Rattle.std.specs.Prelude.{◌≡◌, ◌⊎◌, ℕ, ◌-◌, ◌<◌, ◌≤◌, List}
use Rattle.foundation.specs.Bytes.{part}
use Rattle.event_form.specs.Reading.{BeginsNoEntry}
use Rattle.spool_faults.specs.declared.fault.PendFault.{PendFault}
use Rattle.spool_faults.specs.declared.fault.PendFault.TheVariants as Pend
use Rattle.spool_slots.specs.declared.fault.SlotFault.{SlotFault}
use Rattle.spool_slots.specs.declared.fault.SlotFault.TheVariants.{NoRoom, DiskFault}
use Rattle.spool_slots.specs.declared.fault.ScanFault.{ScanFault}
use Rattle.spool_slots.specs.declared.fault.ScanFault.TheVariants.{NotSpool, NoMemory, DiskFault as DiskFailed}
use Rattle.spool_slots.specs.Groups.{BeginsNoGroup}

-- The group needs so many bytes, and the slot has room for so many. There was no room exactly where it needs more.
abbrev pub CameOf : ℕ → ℕ → SlotFault → Type 0
CameOf need room (NoRoom n r) = (n ≡ need) × (r ≡ room) × (room < need)
CameOf need room DiskFault = need ≤ room

-- a call of the disk failed, or there was no memory
abbrev pub IsNotBroken : ScanFault → Type 0
IsNotBroken (NotSpool place) = ⊥
IsNotBroken DiskFailed = Unit {0}
IsNotBroken NoMemory = Unit {0}

-- Where a rule of the groups is said to be broken, no group or no entry begins that ends before this end of what is read.
abbrev pub IsPartFault : ℕ → List ℕ → ScanFault → Type 0
IsPartFault end c (NotSpool place) = BeginsNoGroup (part place (end - place) c) ⊎ BeginsNoEntry (part place (end - place) c)
IsPartFault end c DiskFailed = Unit {0}
IsPartFault end c NoMemory = Unit {0}

-- the same fault of a reading of the spool's entries
abbrev pub of_scan : ScanFault → PendFault
of_scan (NotSpool at) = Pend.NotSpool at
of_scan DiskFailed = Pend.DiskFault
of_scan NoMemory = Pend.NoMemory
