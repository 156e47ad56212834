-- Runs of bytes that stand for themselves in a string. No public contract names this.
use Rattle.std.specs.Prelude.{◌≡◌, ℕ, ◌≤◌, ◌<◌, true, false, List, slice_index}
use Rattle.json_span.specs.Strings.{is_plain}

-- the bytes from `at` up to `end` stand for themselves
abbrev pub ArePlain : List ℕ → ℕ → ℕ → Type 0
ArePlain bytes at end = (k : ℕ) → at ≤ k → k < end → is_plain (slice_index bytes k) ≡ true

-- and at `end` one stands that doesn't, unless that is the limit
pub record IsPlainRun (bytes : List ℕ) (at limit end : ℕ) : Type 0 where
  pub order : at ≤ end
  pub bound : end ≤ limit
  pub plain : ArePlain bytes at end
  pub stops : end < limit → is_plain (slice_index bytes end) ≡ false
