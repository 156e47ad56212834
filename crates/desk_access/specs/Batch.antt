-- Which entries a caller may take: those of its connections, each connection's in order, and of units that it may use.
use Rattle.std.specs.Prelude.{◌≡◌, ◌⊎◌, ℕ, ◌+◌, ◌^◌, ◌<◌, ◌≤◌, List, [], ◌∷◌, All}
use Rattle.event_form.specs.declared.event.Entry.{Entry}
use Rattle.desk_access.specs.Division.{DividedRun, callers_of, first_conn}

-- these entries are of that connection, and their indexes go on from this one
abbrev pub AreNext : ℕ → ℕ → List Entry → Type 0
AreNext conn index [] = Unit {0}
AreNext conn index (entry ∷ entries) = (entry.conn ≡ conn) × (entry.index ≡ index) × AreNext conn (index + 1) entries

-- where a caller may take entries of a connection from an index on: it may take this group, which is of one connection
abbrev pub MayTake : (ℕ → ℕ → Type 0) → List Entry → Type 0
MayTake may [] = Unit {0}
MayTake may (entry ∷ entries) = may entry.conn entry.index × AreNext entry.conn (entry.index + 1) entries

-- the entry's unit is the number of a frame, and no id
abbrev pub IsPlain : Entry → Type 0
IsPlain entry = entry.unit < 2 ^ 32

-- all entries have this unit
abbrev pub AreOfUnit : ℕ → List Entry → Type 0
AreOfUnit unit group = All (λ (entry : Entry). entry.unit ≡ unit) group

-- where a caller may use ids as units: no unit of this group is an id, or all are one id that may be used
abbrev pub MayUse : (ℕ → Type 0) → List Entry → Type 0
MayUse may group = All IsPlain group ⊎ ((unit : ℕ) × may unit × AreOfUnit unit group)

-- The numbers of connections of a caller in a run: each of the callers among whom they are divided has as many, one caller's after the
-- other's.
pub record Belongs (run : DividedRun) (number conn : ℕ) : Type 0 where
  pub few : number < callers_of run.division
  pub from : first_conn run number ≤ conn
  pub below : conn < first_conn run (number + 1)
