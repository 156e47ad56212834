use Rattle.std.proofs.Common.{◌∙◌}
use Rattle.load_run.specs.Load.{new_spool}
use Rattle.load_run.proofs.Led.{desk_at}
use Rattle.load_run.proofs.loading.new_desk.Goals as goal

pub returns-clause-at : goal.returns-clause-at
returns-clause-at c =
    let held = c.in_ok-spool.ensures.state in
    desk_at new_spool c.new-ids.result c.run.result _ c.new-ids.ensures (c.run.ensures ∙ held.knows.run) (c.new.ensures.at new_spool held)
