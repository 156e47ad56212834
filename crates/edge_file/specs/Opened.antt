-- How a file is held that was opened: for what, and with whom it is shared.
use Rattle.std.specs.Prelude.{◌≡◌}
use Rattle.edge_file.specs.declared.open_fault.Sharing.{Sharing}
use Rattle.edge_file.specs.declared.opening.Opened.{Opened}
use Rattle.edge_file.specs.declared.unlocked.Access.{Access}
use Rattle.edge_file.specs.declared.unlocked.Unlocked.{Unlocked}

-- it was opened for this, and is shared so
abbrev pub IsHeldAs : Access → Sharing → Opened → Type 0
IsHeldAs access sharing opened = (opened.access ≡ access) × (opened.sharing ≡ sharing)

-- it is this file, opened for what that was opened for, and shared so
abbrev pub IsHeld : Unlocked → Sharing → Opened → Type 0
IsHeld unlocked sharing opened = (opened.home.id ≡ unlocked.id) × IsHeldAs unlocked.access sharing opened

-- they aren't one file, nor one block device
abbrev pub AreTwo : Opened → Opened → Type 0
AreTwo one other = one.home.id ≡ other.home.id → ⊥
