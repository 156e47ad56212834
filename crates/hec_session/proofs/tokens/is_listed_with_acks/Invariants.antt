use Rattle.std.proofs.Common.{◌≡◌, take}
use Rattle.hec_session.specs.Checks.{is_listed_with_acks}
use Rattle.hec_session.proofs.tokens.is_listed_with_acks.Given as goal

-- whether it is among those that were looked at
abbrev pub invariant-loop-token : goal.invariant-loop-token
invariant-loop-token l = l.found ≡ is_listed_with_acks (take l.token-index l.listed) l.id
