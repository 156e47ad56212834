-- How the receiver is, as its sessions show it.
use Rattle.std.specs.Prelude.{◌≢◌, ℕ, ◌+◌, ◌-◌, ◌^◌, ◌≤◌, Some, min}
use Rattle.edge_net.specs.declared.illness.Illness.{Illness}
use Rattle.edge_net.specs.declared.receiver.Receiver.{Receiver}

-- the last line says something else of it, and no failure was said in the last minute
abbrev pub IsNews : Illness → ℕ → Receiver → Type 0
IsNews illness now receiver = (receiver.said ≢ Some illness) × (receiver.quiet_until ≤ now)

-- how often it failed since the last line, this time included; the count stands still at the end of its range
abbrev pub failed : Receiver → ℕ
failed receiver = min (receiver.unsaid + 1) (2 ^ 64 - 1)
