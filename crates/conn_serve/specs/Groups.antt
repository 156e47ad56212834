-- The entries of frames, and the units by which senders know the groups that were taken.
use Rattle.std.specs.Prelude.{ℕ, List, [], ◌∷◌, map}
use Rattle.event_form.specs.declared.event.Entry.{Entry}
use Rattle.event_form.specs.Entry.{IsEntry}
use Rattle.desk_access.specs.Batch.{IsPlain}
use Rattle.desk_access.specs.Groups.{Group}

-- an entry within its limits, whose unit is the number of a frame
pub record IsFrameEntry (e : Entry) : Type 0 where
  pub limits : IsEntry e
  pub plain : IsPlain e

-- the unit of the last of these entries
abbrev pub last_unit : List Entry → ℕ
last_unit [] = 0
last_unit (e ∷ []) = e.unit
last_unit (e ∷ f ∷ more) = last_unit (f ∷ more)

-- the units of the groups: by that of a group's last entry its sender knows the group
abbrev pub units : List Group → List ℕ
units groups = map (λ group. last_unit group.entries) groups
