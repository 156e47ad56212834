-- A slot in memory after entries were added to it.
use Rattle.std.proofs.Common.{◌≡◌, ℕ, ◌+◌, ◌≤◌, Ok, Err, ap, arith}
use Rattle.std.specs.Prelude.{Result, OnOk, OnErr}
use Rattle.spool_slots.specs.declared.fault.SlotFault.{SlotFault}
use Rattle.spool_slots.specs.declared.slot.Slot.{Slot}
use Rattle.spool_slots.specs.Slot.{IsSlot}

-- it has so many entries more at most, and lies where it lay
pub record IsGrown (old : Slot) (n : ℕ) (new : Slot) : Type 0 where
  pub at_is : new.at ≡ old.at
  pub size_is : new.size ≡ old.size
  pub ordinal_is : new.ordinal ≡ old.ordinal
  pub first_is : new.first ≡ old.first
  pub least : old.count ≤ new.count
  pub most : new.count ≤ old.count + n

pub grown : (result : Result Unit SlotFault) (old : Slot) (gate n : ℕ) (new : Slot) → OnOk result (IsSlot old.at old.size old.ordinal old.first gate (old.count + n) new) → OnErr result (new ≡ old) → IsGrown old n new
grown (Ok done) old gate n new slot same = record {
  at_is = slot.at_is;
  size_is = slot.size_is;
  ordinal_is = slot.ordinal_is;
  first_is = slot.first_is;
  least = omega (arith, slot.count_is);
  most = omega (arith, slot.count_is);
}
grown (Err fault) old gate n new slot same = record {
  at_is = ap (λ (s : Slot). s.at) same;
  size_is = ap (λ (s : Slot). s.size) same;
  ordinal_is = ap (λ (s : Slot). s.ordinal) same;
  first_is = ap (λ (s : Slot). s.first) same;
  least = omega (arith, ap (λ (s : Slot). s.count) same);
  most = omega (arith, ap (λ (s : Slot). s.count) same);
}
