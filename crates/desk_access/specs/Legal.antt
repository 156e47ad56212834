-- Which calls a caller may make, by those that it made; and journals of which each call was one that its caller might make.
use Rattle.std.specs.Prelude.{◌≡◌, ◌≢◌, ◌⊎◌, ℕ, ◌+◌, ◌*◌, ◌^◌, ◌≤◌, ◌<◌, ◌==◌, if◌then◌else◌, Bool, true, false, List, [], ◌∷◌, ◌++◌, length, All, filter, Ok}
use Rattle.event_form.specs.declared.event.Entry.{Entry}
use Rattle.desk_access.specs.Call.{Call, takes, confirms, marks, issues, settles, Record, own_of, taken_by, take_failures}
use Rattle.desk_access.specs.Division.{DividedRun}
use Rattle.desk_access.specs.Batch.{AreNext, MayTake, MayUse, IsPlain, AreOfUnit, Belongs}
use Rattle.desk_access.specs.History.{Adds, written_by}

abbrev pub bit : Bool → ℕ
bit true = 1
bit false = 0

-- how many of the entries are of that connection
abbrev pub count_in : ℕ → List Entry → ℕ
count_in conn [] = 0
count_in conn (entry ∷ entries) = bit (entry.conn == conn) + count_in conn entries

abbrev pub count_on : ℕ → List Call → ℕ
count_on conn [] = 0
count_on conn (call ∷ calls) = count_in conn (taken_by call) + count_on conn calls

-- no entry of a later connection was taken, or may have been
abbrev pub NoneLater : ℕ → List Call → Type 0
NoneLater conn [] = Unit {0}
NoneLater conn (call ∷ calls) = All (λ (entry : Entry). entry.conn ≤ conn) (written_by call) × NoneLater conn calls

-- no take of that connection was answered that the disk failed
abbrev pub IsSureOn : ℕ → Call → Type 0
IsSureOn conn (takes group result) = (take_failures result ≡ 0) ⊎ All (λ (entry : Entry). entry.conn ≢ conn) group
IsSureOn conn _ = Unit {0}

abbrev pub AreSureOn : ℕ → List Call → Type 0
AreSureOn conn [] = Unit {0}
AreSureOn conn (call ∷ calls) = IsSureOn conn call × AreSureOn conn calls

-- For a caller of that number that made these calls, the connection is its own, and this is the connection's next index.
pub record IsNext (run : DividedRun) (number : ℕ) (own : List Call) (conn index : ℕ) : Type 0 where
  pub belongs : Belongs run number conn
  pub index_is : index ≡ count_on conn own
  pub latest : NoneLater conn own
  pub sure : AreSureOn conn own

-- no take that wrote entries, or perhaps did, used the unit
abbrev pub AreUnused : ℕ → List Call → Type 0
AreUnused unit [] = Unit {0}
AreUnused unit (call ∷ calls) = All (λ (entry : Entry). entry.unit ≢ unit) (written_by call) × AreUnused unit calls

-- the call is an issue that answered the unit
abbrev pub IsIssuedBy : ℕ → Call → Type 0
IsIssuedBy unit (issues channel (Ok id)) = id ≡ unit
IsIssuedBy unit _ = ⊥

-- one of the calls is, and no take after it used the unit
abbrev pub IsUnused : List Call → ℕ → Type 0
IsUnused [] unit = ⊥
IsUnused (call ∷ calls) unit = (IsIssuedBy unit call × AreUnused unit calls) ⊎ IsUnused calls unit

-- the call is a take of entries of the unit that was answered Ok
abbrev pub IsStoredBy : ℕ → Call → Type 0
IsStoredBy unit (takes group (Ok receipt)) = (0 < length group) × AreOfUnit unit group
IsStoredBy unit _ = ⊥

-- one of the calls is
abbrev pub IsStored : List Call → ℕ → Type 0
IsStored [] unit = ⊥
IsStored (call ∷ calls) unit = IsStoredBy unit call ⊎ IsStored calls unit

-- The call is one that the caller of that number may make, which made these before. One caller alone confirms.
abbrev pub May : DividedRun → ℕ → ℕ → List Call → Call → Type 0
May run confirming number own (takes group result) = MayTake (IsNext run number own) group × MayUse (IsUnused own) group
May run confirming number own (confirms upto result) = number ≡ confirming
May run confirming number own (marks stretches result) = number ≡ confirming
May run confirming number own (settles channel id answer) = IsStored own id
May run confirming number own _ = Unit {0}

-- so is each of a journal's records, after these
abbrev pub Met : DividedRun → ℕ → List Record → List Record → Type 0
Met run confirming before [] = Unit {0}
Met run confirming before (one ∷ records) = May run confirming one.by (own_of one.by before) one.call × Met run confirming (before ++ one ∷ []) records

-- ---- what such journals leave

-- the groups that the calls added, one for each call, of which some are empty
abbrev pub AddsGroups : List Call → List (List Entry) → Type 0
AddsGroups [] groups = groups ≡ []
AddsGroups (call ∷ calls) groups = (here : List Entry) × (rest : List (List Entry)) × Adds call here × AddsGroups calls rest × (groups ≡ here ∷ rest)

-- the entries of all groups, in order
abbrev pub all_of : List (List Entry) → List Entry
all_of [] = []
all_of (group ∷ groups) = group ++ all_of groups

-- those of one connection
abbrev pub of_conn : ℕ → List Entry → List Entry
of_conn conn [] = []
of_conn conn (entry ∷ entries) = if entry.conn == conn then entry ∷ of_conn conn entries else of_conn conn entries

-- those of one unit
abbrev pub of_unit : ℕ → List Entry → List Entry
of_unit unit entries = filter (λ (entry : Entry). entry.unit == unit) entries

-- the number is one of a run's 2^32
abbrev pub IsOfRun : ℕ → ℕ → Type 0
IsOfRun run number = (run * 2 ^ 32 ≤ number) × (number < run * 2 ^ 32 + 2 ^ 32)

-- no entry has this unit
abbrev pub AreOfOthers : ℕ → List Entry → Type 0
AreOfOthers unit group = All (λ (entry : Entry). entry.unit ≢ unit) group

-- the entries of a unit are one group at most
abbrev pub AreOneGroup : ℕ → List (List Entry) → Type 0
AreOneGroup unit [] = Unit {0}
AreOneGroup unit (group ∷ groups) = (AreOfOthers unit group × AreOneGroup unit groups) ⊎ (AreOfUnit unit group × All (AreOfOthers unit) groups)

-- The connections are of the run, and each one's indexes are 0, 1, 2 and so on. Units that are ids are of the run, and
-- the entries of each are one group.
pub record IsLegal (run : ℕ) (groups : List (List Entry)) : Type 0 where
  pub conns : All (λ (entry : Entry). IsOfRun run entry.conn) (all_of groups)
  pub indexes : (conn : ℕ) → AreNext conn 0 (of_conn conn (all_of groups))
  pub units : All (λ (entry : Entry). IsPlain entry ⊎ IsOfRun run entry.unit) (all_of groups)
  pub one_group : (unit : ℕ) → 2 ^ 32 ≤ unit → AreOneGroup unit groups
