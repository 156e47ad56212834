-- Leave to write to a disk that has a spool.
use Rattle.std.specs.Prelude.{ℕ}
use Rattle.edge_disk.specs.Disk.{Moment}
use Rattle.edge_disk.specs.Leave.{Lets}
use Rattle.spool_state.specs.Keeping.{KeepsSpool}

-- Each write may be made that keeps the spool: whatever it may tear stands for a later state of a spool for which an image of now stands,
-- and knows no number anew but those that may be given up. Of a disk that tells nothing, nothing is asked.
abbrev pub LetsKeep : {D : Type 0} → Type 0 → (D → Moment) → (D → ℕ → ℕ → Type 0) → (ℕ → Type 0) → Type 0
LetsKeep tells moment may Released = Lets tells moment may (KeepsSpool Released)
