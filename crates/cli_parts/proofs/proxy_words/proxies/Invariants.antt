use Rattle.std.proofs.Common.{length}
use denote.Text.{Utf8}
use denote.Shadow.{shadow}
use Rattle.cli_parts.proofs.Addresses.{Naming}
use Rattle.cli_parts.proofs.proxy_words.proxies.Given as goal

-- the texts before those that are left were read
abbrev pub invariant-loop-first : goal.invariant-loop-first
invariant-loop-first l = shadow (Utf8 l.left) × Naming l.word l.left l.named

abbrev pub decreases-loop-first : goal.decreases-loop-first
decreases-loop-first l = length l.left
