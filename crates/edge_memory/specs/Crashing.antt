-- What a crash leaves of a disk in memory, by choice.
use Rattle.std.specs.Prelude.{◌≡◌, ℕ, ◌<◌, true, false, List, length, slice_index}
use Rattle.edge_memory.specs.Held.{Held, is_written}
use Rattle.edge_memory.specs.declared.crash.Crash.{Crash}
use Rattle.edge_memory.specs.declared.crash.Crash.TheVariants.{Synced, Written, Filled}

-- this byte in the ranges, and what was there everywhere else
pub record IsFilled (byte : ℕ) (ranges : List (ℕ × ℕ)) (old c : List ℕ) : Type 0 where
  pub len : length c ≡ length old
  pub inside : (i : ℕ) → i < length old → is_written ranges i ≡ true → slice_index c i ≡ byte
  pub outside : (i : ℕ) → is_written ranges i ≡ false → slice_index c i ≡ slice_index old i

-- the ranges that wait for a sync hold their old bytes, what was written, or one byte everywhere
abbrev pub IsLeft : Crash → Held → List ℕ → Type 0
IsLeft Synced h c = c ≡ h.durable
IsLeft Written h c = c ≡ h.reads
IsLeft (Filled byte) h c = IsFilled byte h.ranges h.reads c
