-- What was said of the entries that hold the forwarding up.
use Rattle.std.specs.Prelude.{◌≡◌, ◌≢◌, ℕ, ◌≤◌, ◌⊎◌, Bool, IsTrue, Some}
use Rattle.edge_net.specs.declared.standstill.Standstill.{Standstill}

-- the receiver refused the entry, or the session before failed at the same entry
abbrev pub IsStuck : ℕ → Bool → Standstill → Type 0
IsStuck number is_refused standstill = IsTrue is_refused ⊎ (standstill.failed_at ≡ Some number)

-- the last line is a minute old, or it is ten seconds old and about another entry
abbrev pub IsFree : ℕ → ℕ → Standstill → Type 0
IsFree number now standstill =
    (standstill.quiet_until ≤ now) ⊎ ((standstill.said ≢ Some number) × (standstill.others_quiet_until ≤ now))
