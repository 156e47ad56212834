-- A file that counts its faults: it tells its size and its count of faults, and no bytes.
use Rattle.std.specs.Prelude.{ℕ, []}
use Rattle.edge_disk.specs.Disk.{Moment}
use Rattle.edge_file.specs.declared.counted_file.CountedFile.{CountedFile}

abbrev pub silent_moment : ℕ → ℕ → Moment
silent_moment size faults = record { size = size; reads = []; image = λ _. ⊥; clock = 0; image_since = λ _ _. ⊥; faults = faults }

abbrev pub counted_moment : CountedFile → Moment
counted_moment d = silent_moment d.file.len d.faults
