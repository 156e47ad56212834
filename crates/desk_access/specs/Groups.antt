-- The groups of entries that calls took.
use Rattle.std.specs.Prelude.{ℕ, ◌<◌, List, [], ◌∷◌, ◌++◌, length, Ok}
use Rattle.event_form.specs.declared.event.Entry.{Entry}
use Rattle.desk_access.specs.Batch.{AreOfUnit}
use Rattle.desk_access.specs.Call.{Call, takes}

-- a group that was taken: its entries have the numbers from the first one on
pub record Group : Type 0 where
  pub first : ℕ
  pub entries : List Entry

-- it has an entry at least
abbrev pub HasEntries : Group → Type 0
HasEntries group = 0 < length group.entries

-- a group of entries that have this id as their unit
pub record IsOfId (id : ℕ) (group : Group) : Type 0 where
  pub some : HasEntries group
  pub unit : AreOfUnit id group.entries

-- the group that a call took, where it is a take that was answered Ok
abbrev pub groups_by : Call → List Group
groups_by (takes entries (Ok receipt)) = record { first = receipt.first; entries = entries } ∷ []
groups_by _ = []

-- the groups that calls took, in order
abbrev pub groups_of : List Call → List Group
groups_of [] = []
groups_of (call ∷ calls) = groups_by call ++ groups_of calls
