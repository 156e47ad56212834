-- Open slots in memory, judged by their numbers.
use Rattle.std.specs.Prelude.{◌≡◌, ◌⊎◌, ℕ, ◌+◌, ◌<◌, ◌≤◌, Bool, false, List, Option, Some, None}
use Rattle.known_numbers.specs.Numbers.{Numbers}
use Rattle.spool_state.specs.Layout.{most_number}
use Rattle.spool_state.specs.SpoolState.{OpenSlot}
use Rattle.spool_state.specs.Image.{slot_at}
use Rattle.spool_state.specs.Order.{AreInOrder, FirstAtFault}
use Rattle.spool_state.specs.Rules.{OrderBreaks, IsChain, AreAmong}
use Rattle.spool_slots.specs.declared.slot.Slot.{Slot}

-- the numbers end at 2^63 or before, and the ordinal is at most the first number plus 1
pub record HasSoundNumbers (known : Slot) : Type 0 where
  pub early : known.ordinal ≤ known.first + 1
  pub ends : known.first + known.count ≤ most_number

-- These are numbers of a slot in order, where this ordinal and this first number are due.
pub record HasDueNumbers (is_last : Bool) (ordinal first : ℕ) (known : Slot) : Type 0 where
  pub ordinal_due : known.ordinal ≡ ordinal
  pub first_due : known.first ≡ first
  pub some : is_last ≡ false → 0 < known.count
  pub sound : HasSoundNumbers known

-- Nothing where the slots are in order, or the offset of the first one that isn't.
abbrev pub IsOrderOf : ℕ → List OpenSlot → ℕ → ℕ → Option ℕ → Type 0
IsOrderOf size opened ordinal first None = AreInOrder opened ordinal first
IsOrderOf size opened ordinal first (Some at) = (place : ℕ) × (at ≡ slot_at size place) × FirstAtFault opened ordinal first place

-- Nothing where the slots are a chain with the known numbers among those of its entries, or the place of the first
-- rule that is broken: of the slots, or that of the known numbers, whose cell is given.
abbrev pub IsJudgementOf : ℕ → List OpenSlot → Numbers → ℕ → Option ℕ → Type 0
IsJudgementOf size opened numbers cell None = IsChain opened × AreAmong numbers.cursor numbers.stretches opened
IsJudgementOf size opened numbers cell (Some at) = OrderBreaks at size opened ⊎ ((at ≡ cell) × IsChain opened × (AreAmong numbers.cursor numbers.stretches opened → ⊥))
