-- A disk of which a part that was written is held back.
use Rattle.std.specs.Prelude.{◌≡◌, ℕ, List}
use Rattle.foundation.specs.Bytes.{put}
use Rattle.edge_disk.specs.Disk.{Moment}
use Rattle.edge_file.specs.declared.held_part.HeldPart.{HeldPart}

-- what a read of the whole gives: the disk's bytes with the held ones over them
abbrev pub seen : HeldPart → Moment → List ℕ
seen held m = put held.at held.bytes.items m.reads

-- It tells the disk's size and count of faults, and what a read gives. It tells no images: what a read gives stands in for them.
abbrev pub held_moment : HeldPart → Moment → Moment
held_moment held m = record { size = m.size; reads = seen held m; image = λ c. c ≡ seen held m; clock = 0; image_since = λ _ c. c ≡ seen held m; faults = m.faults }
