-- A disk in memory of which no call fails.
use Rattle.std.specs.Prelude.{◌≡◌, ◌⊎◌, ℕ, false, IsTrue, List}
use Rattle.std.proofs.Common.{inl, inr}
use Rattle.edge_disk.specs.Disk.{Moment, IsLawful}
use Rattle.edge_memory.specs.MemDisk.{NeverFails, held_of, mem_moment}
use Rattle.edge_memory.specs.declared.memory.MemDisk.{MemDisk}

-- the moment with a count of faults that stands at 0
abbrev pub unfailing : Moment → Moment
unfailing m = record { size = m.size; reads = m.reads; image = m.image; clock = m.clock; image_since = m.image_since; faults = 0 }

abbrev pub sure_moment : MemDisk → Moment
sure_moment d = unfailing (mem_moment d)

-- its moments are lawful
pub sure_lawful : (d : MemDisk) → IsLawful (mem_moment d) → IsLawful (sure_moment d)
sure_lawful d h = record { reads_size = h.reads_size; image_size = h.image_size; reads_image = h.reads_image; counts_now = h.counts_now; only_now = h.only_now }

-- what it reads stands in for its images
pub sure_stands : (d : MemDisk) (t : ℕ) (c : List ℕ) → NeverFails d → IsTrue (held_of d).recorded ⊎ ((mem_moment d).image_since t c → c ≡ (mem_moment d).reads) → ⊥ ⊎ ((sure_moment d).image_since t c → c ≡ (sure_moment d).reads)
sure_stands d t c never (inl told) = absurd (told_not told never.plain)
  where
    told_not : IsTrue (held_of d).recorded → (held_of d).recorded ≡ false → ⊥
    told_not a b = cc
sure_stands d t c never (inr only) = inr only
