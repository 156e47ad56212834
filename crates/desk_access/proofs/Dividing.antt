-- Numbers of connections that are divided among callers.
use Rattle.std.proofs.Common.{◌≡◌, ℕ, ◌+◌, ◌-◌, ◌*◌, ◌/◌, ◌^◌, ◌<◌, ◌≤◌, arith}
use Rattle.desk_access.specs.declared.division.Division.{Division}
use Rattle.desk_access.specs.declared.division.Division.TheVariants.{Workers, Connections}
use Rattle.desk_access.specs.Division.{callers_of, each_of}

-- the callers have no more than 2^32 together
pub within_run : (division : Division) (caller : ℕ) → caller < callers_of division → (caller + 1) * each_of division ≤ 2 ^ 32
within_run Workers caller few = omega arith
within_run Connections caller few = omega arith

-- and each has no more than 2^26
pub each_few : (division : Division) → each_of division ≤ 2 ^ 26
each_few Workers = omega arith
each_few Connections = omega arith

-- whose a number is
pub whose : (division : Division) (base caller conn : ℕ) → base + caller * each_of division ≤ conn → conn < base + (caller + 1) * each_of division
    → caller ≡ (conn - base) / each_of division
whose Workers base caller conn from below = omega arith
whose Connections base caller conn from below = omega arith

-- there are no more than 4,096 callers
pub callers_few : (division : Division) → callers_of division ≤ 4096
callers_few Workers = omega arith
callers_few Connections = omega arith
