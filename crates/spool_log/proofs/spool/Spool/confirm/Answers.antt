use Rattle.std.proofs.Common.{inl, inr}
use Rattle.spool_log.proofs.spool.Spool.confirm.Goals as goal

pub mark-requires-clause-earned : goal.mark-requires-clause-earned
mark-requires-clause-earned g c = λ n is. elim is [ inl within ↦ c.requires.earned n within.1 | inr none ↦ absurd none ]
