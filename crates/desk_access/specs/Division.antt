-- How the numbers of a run's connections are divided among its callers.
use Rattle.std.specs.Prelude.{ℕ, ◌+◌, ◌*◌, ◌^◌}
use Rattle.desk_access.specs.declared.division.Division.{Division}
use Rattle.desk_access.specs.declared.division.Division.TheVariants.{Workers, Connections}

-- among how many callers
abbrev pub callers_of : Division → ℕ
callers_of Workers = 64
callers_of Connections = 4096

-- how many numbers each has
abbrev pub each_of : Division → ℕ
each_of Workers = 2 ^ 26
each_of Connections = 2 ^ 20

-- A run, by its number, and how the numbers of its connections are divided.
pub record DividedRun : Type 0 where
  pub number : ℕ
  pub division : Division

abbrev pub divided : Division → ℕ → DividedRun
divided division number = record { number = number; division = division }

-- the number of the first connection of a caller: a run has 2^32 of them, and the callers before this one have theirs first
abbrev pub first_conn : DividedRun → ℕ → ℕ
first_conn run caller = run.number * 2 ^ 32 + caller * each_of run.division
