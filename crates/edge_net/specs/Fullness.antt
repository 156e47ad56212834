-- Whether the last event that came to a spool had no room.
use Rattle.std.specs.Prelude.{◌≡◌, ◌⊎◌, ◌<◌, ℕ, IsTrue}
use Rattle.edge_net.specs.declared.fullness.Fullness.{Fullness}

-- an event had no room since the last look, or one had none before and nothing was stored since
abbrev pub IsRefused : ℕ → ℕ → Fullness → Type 0
IsRefused refusals end old = (old.refusals < refusals) ⊎ (IsTrue old.is_refused × (end ≡ old.end))
