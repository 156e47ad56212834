-- About which senders a line was printed lately, and what was left unsaid.
use Rattle.std.specs.Prelude.{◌≡◌, ℕ, ◌+◌, ◌<◌, ◌≤◌, Any, Some, sum_by}
use Rattle.edge_net.specs.Pace.{free_from, later, Took}
use Rattle.edge_net.specs.declared.topic.Topic.{Topic}
use Rattle.edge_net.specs.declared.recent.Entry.{Entry}
use Rattle.edge_net.specs.declared.recent.Recent.{Recent}

-- how often topics came about which no line has said so yet
abbrev pub unsaid_of : Recent → ℕ
unsaid_of recent = sum_by (λ (entry : Entry). entry.unsaid) recent.entries + recent.others

-- a line about that topic was printed less than a minute ago, as far as it is kept in mind
abbrev pub IsQuiet : Topic → ℕ → Recent → Type 0
IsQuiet topic now recent = Any (λ (entry : Entry). (entry.topic ≡ Some topic) × (now < entry.quiet_until)) recent.entries

-- ten lines were printed in the last second
abbrev pub IsSpent : ℕ → Recent → Type 0
IsSpent now recent = now < free_from recent.pace

-- a line is printed at that time, since fewer than ten were in the last second, and it counts as one of the last ten from now on
pub record IsPaced (now : ℕ) (old new : Recent) : Type 0 where
  pub free : free_from old.pace ≤ now
  pub took : Took now old.pace new.pace

-- none is, and none counts
abbrev pub IsUnpaced : Recent → Recent → Type 0
IsUnpaced old new = new.pace ≡ old.pace

-- a line about that topic was printed just now: it is kept in mind that none is to be printed for a minute
abbrev pub IsKeptQuiet : Topic → ℕ → Recent → Type 0
IsKeptQuiet topic now recent = Any (λ (entry : Entry). (entry.topic ≡ Some topic) × (entry.quiet_until ≡ later now 60000)) recent.entries
