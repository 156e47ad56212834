-- How a file is open that is a disk.
use Rattle.std.specs.Prelude.{◌≡◌}
use Rattle.edge_file.specs.declared.file.FileDisk.{FileDisk}
use Rattle.edge_file.specs.declared.open_fault.Sharing.{Sharing}
use Rattle.edge_file.specs.declared.unlocked.Access.{Access}

-- it was opened for this, and is shared so
abbrev pub IsOpenAs : Access → Sharing → FileDisk → Type 0
IsOpenAs access sharing d = (d.pages.disk.file.access ≡ access) × (d.pages.disk.file.sharing ≡ sharing)

-- they aren't disks of one file, nor of one block device
abbrev pub AreTwoFiles : FileDisk → FileDisk → Type 0
AreTwoFiles one other = one.pages.disk.file.home.id ≡ other.pages.disk.file.home.id → ⊥
