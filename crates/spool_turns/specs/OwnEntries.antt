-- What the calls of one caller added, among all that a journal added.
use Rattle.std.specs.Prelude.{◌≡◌, ◌⊎◌, ℕ, ◌^◌, ◌≤◌, ◌==◌, if◌then◌else◌, List, [], ◌∷◌, All}
use Rattle.event_form.specs.declared.event.Entry.{Entry}
use Rattle.desk_access.specs.Division.{DividedRun}
use Rattle.desk_access.specs.Call.{Call, Record}
use Rattle.desk_access.specs.Batch.{AreNext, Belongs}
use Rattle.desk_access.specs.Legal.{AddsGroups, all_of, of_conn, of_unit, AreOfOthers, AreOneGroup}

-- of some groups, one for each record, those of that caller's records
abbrev pub groups_by : ℕ → List Record → List (List Entry) → List (List Entry)
groups_by number [] groups = []
groups_by number (one ∷ log) [] = []
groups_by number (one ∷ log) (group ∷ groups) = if one.by == number then group ∷ groups_by number log groups else groups_by number log groups

-- Of all these groups the caller of that number added its own, by these calls. Each of its entries is of a connection that
-- belongs to it. To such a connection nobody else added any, and the indexes are 0, 1, 2 and so on. Its entries of
-- an id are one group, and nobody else added any of that id.
pub record AddsOwn (run : DividedRun) (number : ℕ) (calls : List Call) (groups own : List (List Entry)) : Type 0 where
  pub adds : AddsGroups calls own
  pub belongs : All (λ (entry : Entry). Belongs run number entry.conn) (all_of own)
  pub conns : (conn : ℕ) → Belongs run number conn → of_conn conn (all_of groups) ≡ of_conn conn (all_of own)
  pub indexes : (conn : ℕ) → Belongs run number conn → AreNext conn 0 (of_conn conn (all_of own))
  pub one_group : (unit : ℕ) → 2 ^ 32 ≤ unit → AreOneGroup unit own
  pub units : (unit : ℕ) → 2 ^ 32 ≤ unit → AreOfOthers unit (all_of own) ⊎ (of_unit unit (all_of groups) ≡ of_unit unit (all_of own))
