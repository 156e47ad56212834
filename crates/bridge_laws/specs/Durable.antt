-- What is durable stays so: over calls of `bridge`, skips and moves one after another, over crashes between them and within them, and over
-- calls that were cut off or never ended.
use Rattle.std.specs.Prelude.{ℕ, ◌∷◌, List, All}
use Rattle.desk_access.specs.Durable.{AreDurable}
use Rattle.desk_access.specs.Groups.{Group}
use Rattle.bridge_laws.specs.Cut.{AreNextOrCut}
use Rattle.bridge_laws.specs.Leave.{AllKeep}
use Rattle.bridge_laws.specs.Lifetime.{AreNext, no_format}
use Rattle.bridge_laws.specs.Told.{DiskKind, Telling}

-- Groups that are durable on a disk are so on each later one, where no call between makes the device an empty spool.
abbrev pub DurableLasts : {D E S K N P : Type 0} (tell : Telling D S K N P) (other : DiskKind E) → Type 0
DurableLasts {D = D} tell other =
    (disk : D) (later : List D) (groups : List Group) → AreDurable (tell.disk.moment disk) groups → AreNext no_format tell other disk later
    → All (λ next. AreDurable (tell.disk.moment next) groups) (disk ∷ later)

-- Groups that a disk keeps are kept on each later one, also where calls between were cut off, or never ended.
abbrev pub KeptLasts : {D E S K N P : Type 0} (tell : Telling D S K N P) (other : DiskKind E) (Release : ℕ → Type 0) → Type 0
KeptLasts {D = D} tell other Release =
    (disk : D) (later : List D) (groups : List Group) → AllKeep (tell.disk.moment disk) groups → AreNextOrCut tell other Release disk later
    → All (λ next. AllKeep (tell.disk.moment next) groups) (disk ∷ later)
