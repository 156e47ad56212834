-- A part of a slot that was read.
use Rattle.std.specs.Prelude.{◌≡◌, ℕ, ◌+◌, ◌<◌, ◌≤◌, List, take}
use Rattle.foundation.specs.Bytes.{part}
use Rattle.spool_slots.specs.declared.window.Window.{Window}

-- The window's bytes are those of the slot at `at` from the window's offset on.
pub record IsWindow (at : ℕ) (window : Window) (c : List ℕ) : Type 0 where
  pub same : take window.filled window.bytes.items ≡ part (at + window.from) window.filled c

-- The last `n` of the window's bytes are those from this offset of the slot on, where `n` isn't 0.
pub record Holds (window : Window) (from n : ℕ) : Type 0 where
  pub within : n ≤ window.filled
  pub begins : 0 < n → window.from ≤ from
  pub ends : 0 < n → from + n ≡ window.from + window.filled
