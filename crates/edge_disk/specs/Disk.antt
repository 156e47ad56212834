-- A disk, and what a crash may leave of it.
--
-- A write isn't durable at once. Until the next sync that succeeds, a crash may leave any bytes in the
-- range that was written, also where the write failed; it leaves every other byte as it was. After a sync
-- that succeeded, a crash leaves what a read gives.
use Rattle.std.specs.Prelude.{◌≡◌, ◌⊎◌, ℕ, ◌≤◌, List, length}
use Rattle.foundation.specs.Bytes.{SameBut}

-- What a disk tells at one moment. An image is a list of bytes, as long as the disk.
pub record Moment : Type 1 where
  -- how many bytes the disk has
  pub size : ℕ
  -- what a read of the whole disk gives
  pub reads : List ℕ
  -- the images that a crash at this moment may leave
  pub image : List ℕ → Type 0
  -- a number that doesn't fall, and that names this moment
  pub clock : ℕ
  -- the images that a crash may have left at some moment from this clock on, up to now
  pub image_since : ℕ → List ℕ → Type 0
  -- how many calls have failed, as far as a `u64` counts
  pub faults : ℕ

-- Settled: nothing written waits for a sync. A crash leaves what a read gives, and nothing else.
pub record IsSettled (m : Moment) : Type 0 where
  pub only : (c : List ℕ) → m.image c → c ≡ m.reads

-- One call's time: an image since a clock was one as the call began, or it is one at its end.
pub record Elapses (old new : Moment) : Type 0 where
  pub later : old.clock ≤ new.clock
  pub nothing_else : (t : ℕ) (c : List ℕ) → t ≤ old.clock → new.image_since t c → old.image_since t c ⊎ new.image c

-- no image of an earlier moment is forgotten
pub record Remembers (old new : Moment) : Type 0 where
  pub keeps : (t : ℕ) (c : List ℕ) → t ≤ old.clock → old.image_since t c → new.image_since t c

-- A read or a sync, also one that failed: what is read stays, and no image comes anew.
pub record IsUntouched (old new : Moment) : Type 0 where
  pub same : new.reads ≡ old.reads
  pub images : (c : List ℕ) → new.image c → old.image c
  pub time : Elapses old new

-- A write of n bytes from an offset on, also one that failed: any bytes in that range, all others as they were.
pub record IsTorn (at n : ℕ) (old new : Moment) : Type 0 where
  pub reads : SameBut at n old.reads new.reads
  pub images : (c : List ℕ) → new.image c → (d : List ℕ) × old.image d × SameBut at n d c
  pub time : Elapses old new

-- Some calls leave only images with P: whenever a crash came since they began, what it left has P.
-- This is what a call over a disk promises, whether it succeeds or fails.
pub record LeavesOnly (P : List ℕ → Type 0) (old new : Moment) : Type 0 where
  pub later : old.clock ≤ new.clock
  -- a crash at any moment since these calls began
  pub each : (c : List ℕ) → new.image_since old.clock c → P c
  -- a crash now
  pub now : (c : List ℕ) → new.image c → P c
  -- a crash since an earlier moment: before these calls, or it left what has P
  pub before : (t : ℕ) (c : List ℕ) → t ≤ old.clock → new.image_since t c → old.image_since t c ⊎ P c

-- What holds at every moment of a disk that tells its reads.
pub record IsLawful (m : Moment) : Type 0 where
  pub reads_size : length m.reads ≡ m.size
  pub image_size : (c : List ℕ) → m.image c → length c ≡ m.size
  -- what is read is one of the images: a process may end where the machine goes on
  pub reads_image : m.image m.reads
  -- this moment is one of those since any clock up to now
  pub counts_now : (t : ℕ) (c : List ℕ) → t ≤ m.clock → m.image c → m.image_since t c
  -- and the only one since its own
  pub only_now : (c : List ℕ) → m.image_since m.clock c → m.image c
