-- The front of a slot, held in memory.
use Rattle.std.specs.Prelude.{◌≡◌, ℕ, ◌+◌, ◌-◌, max, List, ◌++◌, length, replicate}
use Rattle.std.proofs.Common.{refl}
use Rattle.foundation.specs.Bytes.{part}
use Rattle.spool_state.specs.Layout.{least_size}
use Rattle.edge_disk.specs.Disk.{Moment, IsLawful}

-- how many bytes are held where so many are copied: a closed gate more, and at least as many as a slot has
abbrev pub held_size : ℕ → ℕ
held_size n = max (n + 1) least_size

abbrev pub zeros : ℕ → List ℕ
zeros n = replicate n 0

-- the n bytes from an offset on, and zeros after them
abbrev pub held_front : ℕ → ℕ → List ℕ → List ℕ
held_front at n c = part at n c ++ zeros (held_size n - n)

-- a disk that is only read, and of which no call fails
abbrev pub still : List ℕ → Moment
still bytes = record {
  size = length bytes;
  reads = bytes;
  image = λ c. c ≡ bytes;
  clock = 0;
  image_since = λ t c. c ≡ bytes;
  faults = 0;
}

pub still_lawful : (bytes : List ℕ) → IsLawful (still bytes)
still_lawful bytes = record {
  reads_size = refl;
  image_size = λ c is i. length (is i);
  reads_image = refl;
  counts_now = λ t c le is. is;
  only_now = λ c is. is;
}
