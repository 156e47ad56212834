-- What it means that groups are durable: whatever a crash leaves of the disk keeps them.
use Rattle.std.specs.Prelude.{◌≡◌, ℕ, ◌<◌, true, false, List, [], ◌∷◌, length, get_or}
use Rattle.std.specs.List.{All, Contains}
use Rattle.edge_disk.specs.Disk.{Moment}
use Rattle.spool_state.specs.SpoolState.{SpoolState}
use Rattle.spool_state.specs.Image.{StandsFor}
use Rattle.desk_access.specs.Call.{Call, asks}
use Rattle.desk_access.specs.Groups.{Group, IsOfId, groups_of}
use Rattle.desk_access.specs.History.{AreKept, AllKept}

-- each entry of the group stands in the spool at its number, or is below the cursor
abbrev pub IsGroupKept : SpoolState → Group → Type 0
IsGroupKept s group = AreKept s group.first group.entries

-- whatever a crash leaves now stands for a spool that keeps these groups
abbrev pub AreDurable : Moment → List Group → Type 0
AreDurable m groups = (c : List ℕ) → m.image c → (s : SpoolState) × StandsFor s c × All (IsGroupKept s) groups

-- whatever a crash leaves now stands for a spool that keeps what these calls took
abbrev pub KeepsCalls : Moment → List Call → Type 0
KeepsCalls now calls = (c : List ℕ) → now.image c → (s : SpoolState) × StandsFor s c × AllKept s calls

-- the calls took the group, and it is durable
pub record IsTakenDurably (calls : List Call) (now : Moment) (group : Group) : Type 0 where
  pub taken : Contains (groups_of calls) group
  pub durable : AreDurable now (group ∷ [])

-- a group of the id is durable
abbrev pub IsIdDurable : Moment → ℕ → Type 0
IsIdDurable now id = (group : Group) × IsOfId id group × AreDurable now (group ∷ [])

-- the calls took a group of the id, and it is durable
abbrev pub IsIdTakenDurably : List Call → Moment → ℕ → Type 0
IsIdTakenDurably calls now id = (group : Group) × IsOfId id group × IsTakenDurably calls now group

-- the call asks about ids of the channel, and was answered true for this one
abbrev pub IsToldTrue : ℕ → ℕ → Call → Type 0
IsToldTrue channel id (asks asking ids known) = (asking ≡ channel) × ((k : ℕ) × (k < length ids) × (get_or ids k 0 ≡ id) × (get_or known k false ≡ true))
IsToldTrue channel id call = ⊥
