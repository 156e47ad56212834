-- A segment begun for a group, as memory knows it.
use Rattle.std.proofs.Common.{◌≡◌, inr, ℕ, ◌-◌, ◌≤◌, ◌<◌, List, ◌∙◌, arith}
use Rattle.foundation.specs.Bytes.{SameBut}
use Rattle.spool_state.specs.SpoolState.{SpoolState, IsSound}
use Rattle.spool_state.specs.Free.{IsClosed}
use Rattle.spool_state.specs.Image.{slot_at, StandsFor}
use Rattle.disk_cell.specs.Register as Cells
use Rattle.disk_cell.specs.declared.register.Register.{Register}
use Rattle.disk_cell.proofs.Frames.{knows_stays}
use Rattle.spool_slots.specs.declared.slot.Slot.{Slot}
use Rattle.spool_log.specs.declared.changing.begin.Head.{Head}
use Rattle.spool_log.specs.Knows.{KnowsSlot}
use Rattle.spool_log.specs.Changing.Next.{IsHead, IsNext}
use Rattle.spool_log.proofs.Numbers.{end_known, some_entry}

-- The head that memory makes is that of the next segment, in a closed slot.
pub next_known : (s : SpoolState) (size : ℕ) (active : Slot) (place at need : ℕ) (head : Head) → IsSound s → size ≡ s.size → KnowsSlot s.size s.active active → IsClosed s place → IsHead size active at head → at ≡ slot_at s.size place
    → need ≤ size - 18 → active.size - active.gate - 1 < need → IsNext s place head
next_known s size active place at need head sound size_is knows closed is there small full = record {
  closed = closed;
  at_is = is.at_is ∙ there;
  size_is = is.size_is ∙ size_is;
  ordinal_is = omega (arith, is.ordinal_is, knows.ordinal_is);
  first_is = is.first_is ∙ end_known s active sound knows;
  some = some_entry s active need sound knows (omega (arith, small, size_is)) full;
}

-- a change in one slot leaves the register as memory knows it
pub register_kept : (s : SpoolState) (place at size : ℕ) (register : Register) (c d : List ℕ) → StandsFor s c → at ≡ slot_at s.size place → SameBut at size c d → Cells.Knows register c → Cells.Knows register d
register_kept s place at size register c d stands is same known = knows_stays register at size c d same (inr (omega (arith, is))) (omega (arith, stands.long)) known
