-- How many lines a second may have.
use Rattle.std.specs.Prelude.{◌≡◌, ℕ, ◌+◌, ◌-◌, ◌^◌, ◌%◌, min, slice_index, slice_set}
use Rattle.edge_net.specs.declared.pace.Pace.{Pace}

-- from when on the next line may be printed, in milliseconds: the tenth line before it is a second old then
abbrev pub free_from : Pace → ℕ
free_from pace = slice_index pace.old_at pace.oldest

-- so many milliseconds after that time, or the last time that the clock can tell
abbrev pub later : ℕ → ℕ → ℕ
later now millis = min (now + millis) (2 ^ 64 - 1)

-- a line is printed at that time: it is a second old a second later, and the line after the oldest one is the oldest now
pub record Took (now : ℕ) (old new : Pace) : Type 0 where
  pub ages : new.old_at ≡ slice_set old.old_at old.oldest (later now 1000)
  pub turns : new.oldest ≡ (old.oldest + 1) % 10
