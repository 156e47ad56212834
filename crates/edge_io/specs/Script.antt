-- Which calls of a memory form fail.
use Rattle.std.specs.Prelude.{◌≡◌, ℕ, ◌+◌, ◌-◌, ◌^◌, min, List, Contains}
use Rattle.edge_io.specs.declared.script.Script.{Script}

-- the numbers of the calls that fail
abbrev pub failing_numbers : Script → List ℕ
failing_numbers script = script.failing.items

-- the number of the next call, counted from 0
abbrev pub call_number : Script → ℕ
call_number script = script.calls

-- the next call is one that fails
abbrev pub IsFailing : Script → Type 0
IsFailing script = Contains (failing_numbers script) (call_number script)

-- One call more was made. The count stands still at 2^128 - 1, a number that no list of u64 has.
pub record Advances (old new : Script) : Type 0 where
  pub list : failing_numbers new ≡ failing_numbers old
  pub number : call_number new ≡ min (call_number old + 1) (2 ^ 128 - 1)
