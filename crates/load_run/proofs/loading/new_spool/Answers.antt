use Rattle.spool_state.specs.Empty.{empty_state}
use Rattle.load_run.proofs.Counted.{never_rose, on_ok}
use Rattle.load_run.proofs.Newest.{only_memory, opens_new}
use Rattle.load_run.proofs.loading.new_spool.Goals as goal

pub unreachable-requires-in_default : goal.unreachable-requires-in_default
unreachable-requires-in_default c =
    let stands = on_ok c.format.result _ c.if-is_err.ensures.value c.format.ensures.empty tt in
    c.in_default.not-NoMemory (only_memory c.in-Err.refusal.fault (c.in-Err.ensures.refused (empty_state 8 4194304) tt stands) (λ is. never_rose (c.in-Err.ensures.calls.cause is)))

pub returns-in-Ok-clause-state : goal.returns-in-Ok-clause-state
returns-in-Ok-clause-state c =
    let stands = on_ok c.format.result _ c.if-is_err.ensures.value c.format.ensures.empty tt in
    let told = c.in-Ok.ensures.opened tt in
    opens_new told.0 _ _ stands told.1
