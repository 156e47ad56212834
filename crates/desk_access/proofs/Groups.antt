-- The groups that calls took.
use Rattle.std.proofs.Common.{◌≡◌, inl, inr, ℕ, arith, List, [], ◌∷◌, ◌++◌, refl, sym, ap, ◌∙◌, append_assoc}
use Rattle.std.specs.Prelude.{Ok, Err}
use Rattle.std.specs.List.{Contains}
use Rattle.std.proofs.lemmas.List.Elements.{Contains-append_left, Contains-append_right}
use Rattle.desk_access.specs.Call.{Call, takes}
use Rattle.desk_access.specs.Groups.{Group, IsOfId, groups_by, groups_of}
use Rattle.desk_access.specs.Legal.{IsStoredBy, IsStored}

pub groups_then : (xs ys : List Call) → groups_of (xs ++ ys) ≡ groups_of xs ++ groups_of ys
groups_then [] ys = refl
groups_then (x ∷ xs) ys = ap (λ (l : List Group). groups_by x ++ l) (groups_then xs ys) ∙ sym (append_assoc (groups_by x) (groups_of xs) (groups_of ys))

-- a take of entries of a unit took a group of it
here_stored : (call : Call) (id : ℕ) → IsStoredBy id call → (group : Group) × Contains (groups_by call) group × IsOfId id group
here_stored (takes entries (Ok receipt)) id (some, unit) = let group : Group = record { first = receipt.first; entries = entries } in (group, (0, omega arith, refl), record { some = some; unit = unit })
here_stored (takes entries (Err fault)) id never = absurd never
here_stored call id never = absurd never

pub stored_group : (calls : List Call) (id : ℕ) → IsStored calls id → (group : Group) × Contains (groups_of calls) group × IsOfId id group
stored_group [] id never = absurd never
stored_group (call ∷ calls) id (inl here) = let g = here_stored call id here in (g.0, Contains-append_left (groups_by call) (groups_of calls) g.0 g.1, g.2)
stored_group (call ∷ calls) id (inr there) = let g = stored_group calls id there in (g.0, Contains-append_right (groups_by call) (groups_of calls) g.0 g.1, g.2)
