-- When a connection may end for want of more, and its counts of faults.
use Rattle.std.specs.Prelude.{◌≡◌, ◌≤◌, ◌^◌, ℕ, List, length, Option}
use Rattle.foundation.specs.Faults.{Rose}
use Rattle.event_form.specs.declared.talk.Talk.{Talk}
use Rattle.event_form.specs.declared.talk.Talk.TheVariants.{ReadFault, TooMuch}
use Rattle.desk_access.specs.Call.{Call}

-- Of a connection's reads, or of its writes: their count of faults doesn't fall; it rose where such a fault is the
-- answer, and is what it was where it isn't. So no call that failed is passed over.
pub record CountsFaults (fault : Type 0) (before now : ℕ) : Type 0 where
  pub later : before ≤ now
  pub cause : fault → Rose 1 before now
  pub quiet : (fault → ⊥) → now ≡ before

-- Where this was served, no frame waits, and the bytes have no fault: a connection may end here for
-- want of a read, or because it has read as much as it may.
pub record MayEnd (Served : List ℕ → List Call → List ℕ → Type 0) (Carried : Option (List ℕ) → List ℕ → List Call → List ℕ → Talk → Type 0) : Type 0 where
  pub read_fault : (left : Option (List ℕ)) (fed : List ℕ) (calls : List Call) (text : List ℕ) → Served fed calls text → Carried left fed calls text ReadFault
  pub too_much : (left : Option (List ℕ)) (fed : List ℕ) (calls : List Call) (text : List ℕ) → Served fed calls text → length fed ≡ 2 ^ 40
      → Carried left fed calls text (TooMuch (2 ^ 40))
