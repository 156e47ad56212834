-- The memory that connections take.
use Rattle.std.specs.Prelude.{ℕ, ◌-◌, ◌*◌, ◌/◌, ◌==◌, nat_lt, if◌then◌else◌}
use Rattle.edge_net.specs.declared.budget.Part.{Part}
use Rattle.edge_net.specs.declared.budget.Part.TheVariants.{Nothing, Few, Many}

-- what a connection takes beside the 16,384 bytes that each takes
abbrev pub part_of : ℕ → Part
part_of claimed = if (claimed - 16384) == 0 then Nothing else if nat_lt 262144 (claimed - 16384) then Many (claimed - 16384) else Few (claimed - 16384)

-- how many bytes the parts of one kind may take together
abbrev pub most_of : ℕ → Part → ℕ
most_of bound Nothing = 2 * (bound / 8)
most_of bound (Few bytes) = bound / 8
most_of bound (Many bytes) = 5 * (bound / 8)
