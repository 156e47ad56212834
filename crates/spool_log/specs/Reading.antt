-- What the reading of a device answers.
pub mod Header
pub mod Judging
pub mod Marked
pub mod Wanted
use Rattle.std.specs.Prelude.{◌≡◌, ℕ, ◌+◌, ◌≤◌, List}
use Rattle.spool_state.specs.SpoolState.{OpenSlot, SpoolState}
use Rattle.spool_state.specs.Image.{slot_at}
use Rattle.spool_state.specs.Order.{AreOpenSlots}
use Rattle.spool_state.specs.Rules.{GroupBreaks, Breaks}
use Rattle.spool_slots.specs.declared.slot.Slot.{Slot}
use Rattle.spool_faults.specs.declared.fault.PendFault.{PendFault}
use Rattle.spool_faults.specs.declared.fault.PendFault.TheVariants.{NotSpool, DiskFault, NoMemory}
use Rattle.spool_log.specs.declared.memory.Memory.{Memory}
use Rattle.spool_log.specs.Knows.{KnowsSlots, IsStored}

-- NotSpool comes only where the device breaks a rule, with the place of the first one that it breaks.
abbrev pub IsReadFault : List ℕ → PendFault → Type 0
IsReadFault c (NotSpool at) = Breaks at c
IsReadFault c DiskFault = Unit {0}
IsReadFault c NoMemory = Unit {0}

-- And of so many slots of this size: only where one of them breaks the rule of its groups.
abbrev pub IsSlotsFault : ℕ → ℕ → List ℕ → PendFault → Type 0
IsSlotsFault slots size c (NotSpool at) = GroupBreaks slots size at c
IsSlotsFault slots size c DiskFault = Unit {0}
IsSlotsFault slots size c NoMemory = Unit {0}

-- memory has the numbers of all open slots of the device, in order
pub record KnowsOpened (slots size : ℕ) (known : List Slot) (c : List ℕ) : Type 0 where
  pub opened : List OpenSlot
  pub all : AreOpenSlots slots size c opened
  pub numbers : KnowsSlots size opened known

-- memory knows the state that the device stands for
abbrev pub KnowsState : List ℕ → Memory → Type 0
KnowsState c memory = (s : SpoolState) × IsStored s memory c

-- the slot in memory lies on a device of so many slots of this size
pub record IsPlaced (slots size : ℕ) (known : Slot) : Type 0 where
  pub wide : known.size ≡ size
  pub inside : known.at + size ≤ slot_at size slots
