use Rattle.std.proofs.Common.{◌≡◌, ℕ, ◌<◌, get_or}
use Rattle.edge_net.proofs.proxies.Proxies.have.Given as goal

-- none of those that were looked at is this one
abbrev pub invariant-loop-at : goal.invariant-loop-at
invariant-loop-at l = (k : ℕ) → k < l.at → get_or l.self.addresses k l.address ≡ l.address → ⊥
