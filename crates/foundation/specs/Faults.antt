-- Counts of faults. A count is a `u64` and stands still at its type's end.
use Rattle.std.specs.Prelude.{◌≡◌, ℕ, ◌+◌, ◌-◌, ◌^◌, ◌≤◌, min, Result, IsOk, IsErr}

-- the count rose by n, as far as its type goes
abbrev pub Rose : ℕ → ℕ → ℕ → Type 0
Rose n before now = min (before + n) (2 ^ 64 - 1) ≤ now

-- The count never falls in a call, a fault is answered only where it rose in this call, and a call that
-- answers none failed at nothing.
pub record HasCause {T E : Type 0} (before now : ℕ) (result : Result T E) : Type 0 where
  pub later : before ≤ now
  pub failed : IsErr result → Rose 1 before now
  pub quiet : IsOk result → now ≡ before
