-- A disk that is a file: it tells what its file does, its size and its count of faults, and no bytes.
use Rattle.edge_disk.specs.Disk.{Moment}
use Rattle.edge_file.specs.CountedFile.{counted_moment}
use Rattle.edge_file.specs.declared.file.FileDisk.{FileDisk}

abbrev pub file_moment : FileDisk → Moment
file_moment d = counted_moment d.pages.disk
