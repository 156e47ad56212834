use Rattle.spool_log.specs.Opening.{opened}
use Rattle.spool_log.proofs.Opens.Recovering.{opens}
use Rattle.spool_log.proofs.spool.Spool.recover.Goals as goal

pub invariant_of-result-clause-long : goal.invariant_of-result-clause-long
invariant_of-result-clause-long g c = c.in-Ok-open.ensures.long

pub invariant_of-result-clause-settled : goal.invariant_of-result-clause-settled
invariant_of-result-clause-settled g c = λ is tells. c.in-Ok-open.ensures.durable tells

pub invariant_of-result-clause-stored : goal.invariant_of-result-clause-stored
invariant_of-result-clause-stored g c = λ is tells.
    let found = c.in-Ok-open.ensures.found tells in
    ∣ (opened c.args.opening found.0, found.3) ∣₁

pub returns-in-Ok-open-clause-opened : goal.returns-in-Ok-open-clause-opened
returns-in-Ok-open-clause-opened g c = λ tells.
    let found = c.in-Ok-open.ensures.found tells in
    (found.0, opens c.args.opening found.0 _ c.in-Ok-open.memory _ found.1 found.2 (c.in-Ok-open.ensures.durable tells) found.3)
