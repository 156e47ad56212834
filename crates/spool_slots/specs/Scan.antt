-- What a scan of a slot answers.
use Rattle.std.specs.Prelude.{◌≡◌, ℕ, ◌+◌, ◌-◌, List, ◌++◌, length, All, Option, None, Some, Result, Ok, Err}
use Rattle.foundation.specs.Bytes.{part}
use Rattle.spool_state.specs.Segment.{IsGroup, Segment, entries_of, segment_text}
use Rattle.spool_state.specs.Broken.{BreaksAt}
use Rattle.spool_slots.specs.declared.fault.ScanFault.{ScanFault}
use Rattle.spool_slots.specs.declared.fault.ScanFault.TheVariants.{NotSpool, DiskFault, NoMemory}
use Rattle.spool_slots.specs.declared.slot.Slot.{Slot}
use Rattle.spool_slots.specs.Slot.{Knows}

-- memory knows the segment that the slot holds
abbrev pub KnowsSome : Slot → List ℕ → Type 0
KnowsSome slot c = (segment : Segment) × Knows slot segment c

-- a slot is said to break the rule of its groups where it does
abbrev pub IsScanFault : ℕ → ℕ → List ℕ → ScanFault → Type 0
IsScanFault at size c (NotSpool place) = BreaksAt at size place c
IsScanFault at size c DiskFault = Unit {0}
IsScanFault at size c NoMemory = Unit {0}

-- The groups before a gate of the slot are sound, with so many entries in all.
pub record IsScanned (at size ordinal first gate count : ℕ) (c : List ℕ) : Type 0 where
  pub before : Segment
  pub sound : All IsGroup before.groups
  pub ordinal_is : before.ordinal ≡ ordinal
  pub first_is : before.first ≡ first
  pub text : part at size c ≡ segment_text before ++ part (at + gate) (size - gate) c
  pub gate_is : gate ≡ length (segment_text before)
  pub count_is : count ≡ length (entries_of before)

-- Of a slot that holds the segment, whose groups are sound, the scan knows that segment, or it had a fault or no memory.
abbrev pub IsScanOf : Segment → List ℕ → Result (Option Slot) ScanFault → Type 0
IsScanOf segment c (Ok None) = ⊥
IsScanOf segment c (Ok (Some slot)) = Knows slot segment c
IsScanOf segment c (Err (NotSpool place)) = ⊥
IsScanOf segment c (Err DiskFault) = Unit {0}
IsScanOf segment c (Err NoMemory) = Unit {0}
