use Rattle.std.proofs.Common.{◌≡◌, take}
use Rattle.hec_session.specs.Checks.{is_listed}
use Rattle.hec_session.proofs.tokens.is_listed.Given as goal

-- whether it is among those that were looked at
abbrev pub invariant-loop-token : goal.invariant-loop-token
invariant-loop-token l = l.found ≡ is_listed (take l.token-index l.listed) l.id
