-- What a disk in memory holds, and the images that it tells.
use Rattle.std.specs.Prelude.{◌≡◌, ◌⊎◌, ℕ, ◌+◌, ◌/◌, ◌^◌, ◌<◌, Bool, true, false, ◌&&◌, ◌||◌, nat_le, nat_lt, List, [], ◌∷◌, ◌++◌, length, take, drop, slice_index}
use Rattle.foundation.specs.Bytes.{put}
use Rattle.edge_disk.specs.Disk.{Moment}

-- A time between two syncs: what was durable then, and the ranges written in it, the last one first.
-- A range is an offset and a number of bytes.
pub record Epoch : Type 0 where
  pub durable : List ℕ
  pub ranges : List (ℕ × ℕ)

-- what a disk in memory holds
pub record Held : Type 0 where
  -- whether it keeps a record of what a crash may leave
  pub recorded : Bool
  -- what a read of the whole disk gives
  pub reads : List ℕ
  -- what a read gave at the last sync that succeeded
  pub durable : List ℕ
  -- the ranges written since, the last one first
  pub ranges : List (ℕ × ℕ)
  -- the times before that sync in which something was written, the first one first
  pub past : List Epoch

-- a disk with these bytes, all of them durable
abbrev pub new_held : Bool → List ℕ → Held
new_held recorded bytes = record { recorded = recorded; reads = bytes; durable = bytes; ranges = []; past = [] }

-- the first half, rounded down
abbrev pub first_half : List ℕ → List ℕ
first_half piece = take (length piece / 2) piece

-- a range that is about to be written is noted, where there is a record
abbrev pub with_note : Bool → ℕ → ℕ → Held → Held
with_note true at n h = record h { ranges = (at, n) ∷ h.ranges }
with_note false at n h = h

-- a piece is written; without a record it counts as durable at once
abbrev pub with_piece : Bool → ℕ → List ℕ → Held → Held
with_piece true at piece h = record h { reads = put at piece h.reads }
with_piece false at piece h = record h { reads = put at piece h.reads; durable = put at piece h.reads }

-- after a write into the n bytes from an offset on, of which this piece came through
abbrev pub after_write : ℕ → ℕ → List ℕ → Held → Held
after_write at n piece h = with_piece h.recorded at piece (with_note h.recorded at n h)

-- a time ends that had these ranges; one in which nothing was written leaves no trace
abbrev pub with_epoch : List (ℕ × ℕ) → Held → Held
with_epoch [] h = h
with_epoch (range ∷ ranges) h = record h { durable = h.reads; ranges = []; past = h.past ++ record { durable = h.durable; ranges = h.ranges } ∷ [] }

-- after a sync that succeeded
abbrev pub after_sync : Held → Held
after_sync h = with_epoch h.ranges h

-- one of the ranges has this place
abbrev pub is_written : List (ℕ × ℕ) → ℕ → Bool
is_written [] i = false
is_written (range ∷ ranges) i = (nat_le range.0 i && nat_lt i (range.0 + range.1)) || is_written ranges i

-- any bytes in the ranges, and the durable ones everywhere else
pub record IsCover (durable : List ℕ) (ranges : List (ℕ × ℕ)) (c : List ℕ) : Type 0 where
  pub len : length c ≡ length durable
  pub outside : (i : ℕ) → is_written ranges i ≡ false → slice_index c i ≡ slice_index durable i

-- a crash in one of these times may have left it
abbrev pub HadImage : List Epoch → List ℕ → Type 0
HadImage [] c = ⊥
HadImage (epoch ∷ past) c = IsCover epoch.durable epoch.ranges c ⊎ HadImage past c

-- What a disk tells that holds this, with its count of faults. The clock is the number of past times.
abbrev pub moment_of : Held → ℕ → Moment
moment_of h faults =
    record {
      size = length h.reads;
      reads = h.reads;
      image = IsCover h.durable h.ranges;
      clock = length h.past;
      image_since = λ t c. IsCover h.durable h.ranges c ⊎ HadImage (drop t h.past) c;
      faults = faults;
    }

-- what holds of it at each moment
pub record IsSound (h : Held) : Type 0 where
  pub fits : length h.reads < 2 ^ 64
  pub covers : IsCover h.durable h.ranges h.reads
  pub no_ranges : h.recorded ≡ false → length h.ranges ≡ 0
  pub no_past : h.recorded ≡ false → length h.past ≡ 0
