-- What is durable stays so at each moment of a call, whose writes all had leave; and no number becomes known otherwise.
use Rattle.std.specs.Prelude.{◌⊎◌, ℕ, List, [], ◌∷◌, All}
use Rattle.edge_disk.specs.Disk.{Moment, IsUntouched, IsTorn}
use Rattle.edge_disk.specs.Leave.{TearsOn}
use Rattle.spool_state.specs.SpoolState.{SpoolState, IsKnownIn}
use Rattle.spool_state.specs.Image.{StandsFor}
use Rattle.spool_state.specs.Keeping.{KeepsSpool}
use Rattle.desk_access.specs.Durable.{AreDurable, IsGroupKept}
use Rattle.desk_access.specs.Groups.{Group}

-- The disk came from the one before by a read or a sync, or by a write that had leave, of which whatever a crash may tear keeps the spool.
abbrev pub IsTouched : {D : Type 0} → (D → Moment) → (ℕ → Type 0) → D → D → Type 0
IsTouched moment Release old new =
    IsUntouched (moment old) (moment new)
    ⊎ ((at : ℕ) × (n : ℕ) × TearsOn (KeepsSpool Release) (moment old) at n × IsTorn at n (moment old) (moment new))

-- So these came, one after another.
abbrev pub AreTouched : {D : Type 0} → (D → Moment) → (ℕ → Type 0) → D → List D → Type 0
AreTouched moment Release disk [] = Unit {0}
AreTouched moment Release disk (next ∷ later) = IsTouched moment Release disk next × AreTouched moment Release next later

-- the last of the disks
abbrev pub last_disk : {D : Type 0} → D → List D → D
last_disk disk [] = disk
last_disk disk (next ∷ later) = last_disk next later

-- whatever a crash leaves now stands for a spool that keeps these groups
abbrev pub AllKeep : Moment → List Group → Type 0
AllKeep m groups = (c : List ℕ) → m.image c → ∥ ((s : SpoolState) × StandsFor s c × All (IsGroupKept s) groups) ∥₁

-- Groups that are durable on a disk are kept on it.
abbrev pub DurableIsKept : {D : Type 0} → (D → Moment) → Type 0
DurableIsKept {D} moment = (disk : D) (groups : List Group) → AreDurable (moment disk) groups → AllKeep (moment disk) groups

-- Groups that are kept on a disk are so on each that came from it.
abbrev pub LeaveLasts : {D : Type 0} → (D → Moment) → (ℕ → Type 0) → Type 0
LeaveLasts {D} moment Release =
    (disk : D) (later : List D) (groups : List Group) → AllKeep (moment disk) groups → AreTouched moment Release disk later
    → All (λ next. AllKeep (moment next) groups) (disk ∷ later)

-- something that a crash may leave now knows the number
abbrev pub IsKnownAt : Moment → ℕ → Type 0
IsKnownAt m number = (c : List ℕ) × (s : SpoolState) × m.image c × StandsFor s c × IsKnownIn s number

-- A number that is known on a disk that came from another was known there, or may become known.
abbrev pub LeaveReleases : {D : Type 0} → (D → Moment) → (ℕ → Type 0) → Type 0
LeaveReleases {D} moment Release =
    (disk : D) (later : List D) (number : ℕ) → AreTouched moment Release disk later
    → All (λ next. IsKnownAt (moment next) number → ∥ (IsKnownAt (moment disk) number ⊎ Release number) ∥₁) (disk ∷ later)
