-- Which calls of a disk in memory fail. Its calls of read_at, write_at and sync are numbered from 0.
use Rattle.std.specs.Prelude.{ℕ, ◌+◌, ◌-◌, ◌^◌, ◌==◌, Bool, false, ◌||◌, Option, None, Some, nat_le, List, min}
use Rattle.std.specs.List.{list_any}

pub record CallPlan : Type 0 where
  -- the numbers of calls that fail
  pub failing : List ℕ
  -- from this number on every call fails
  pub stop : Option ℕ
  -- how many calls there were: the number of the next one
  pub calls : ℕ

-- one more, as far as a `u64` counts
abbrev pub one_more : ℕ → ℕ
one_more n = min (n + 1) (2 ^ 64 - 1)

-- the stop has come by this number
abbrev pub is_stopped : Option ℕ → ℕ → Bool
is_stopped None number = false
is_stopped (Some stop) number = nat_le stop number

-- the next call is one that fails
abbrev pub next_fails : CallPlan → Bool
next_fails plan = is_stopped plan.stop plan.calls || list_any (λ number. number == plan.calls) plan.failing

-- the plan after one more call
abbrev pub after_call : CallPlan → CallPlan
after_call plan = record plan { calls = one_more plan.calls }
