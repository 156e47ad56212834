-- What one call does to a count of faults that is exact.
use Rattle.std.specs.Prelude.{◌≡◌, ℕ, ◌+◌, ◌-◌, ◌^◌, ◌≤◌, min, Result, OnOk, OnErr}

-- so many more, as far as a u64 goes
abbrev pub more : ℕ → ℕ → ℕ
more n count = min (count + n) (2 ^ 64 - 1)

-- one more
abbrev pub one_more : ℕ → ℕ
one_more count = more 1 count

-- the count rises by one where the call answers a fault, and else stays
pub record CountsFault {T E : Type 0} (before now : ℕ) (result : Result T E) : Type 0 where
  pub ok : OnOk result (now ≡ before)
  pub err : OnErr result (now ≡ one_more before)

-- the faults of a link are added to the count
pub record Gains (n before now : ℕ) : Type 0 where
  pub later : before ≤ now
  pub by : now ≡ more n before
