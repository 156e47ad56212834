use Rattle.std.proofs.Common.{inr}
use Rattle.spool_log.proofs.Going.{goes_on}
use Rattle.spool_log.proofs.spool.Spool.take.Goals as goal

pub returns-clause-taken : goal.returns-clause-taken
returns-clause-taken g c = λ s doubt tells some held.
    let mended = c.in_ok-mend.ensures.mended s doubt tells held in
    let stored = c.store.ensures.taken mended.0 tells mended.1.reached in
    inr (mended.0, stored.0, goes_on s doubt mended.0 _ _ _ _ _ _ mended.1 stored.1.follows stored.1.stages_follow stored.1.reached stored.1.any_moment)
