use Rattle.std.proofs.Common.{refl}
use Rattle.spool_slots.proofs.Faults.{handed}
use Rattle.spool_slots.proofs.Marks.{entered_is}
use Rattle.spool_slots.proofs.next.enter.Goals as goal

pub returns-in_err-head-clause-entered : goal.returns-in_err-head-clause-entered
returns-in_err-head-clause-entered g c = λ segment tells holds sound mark lt.
    handed _ _ _ _ c.from_residual.ensures.1 (c.in_err-head.ensures.group segment tells holds sound mark c.if-mark-ne0.false lt)

pub returns-clause-entered : goal.returns-clause-entered
returns-clause-entered g c = λ segment tells holds sound mark lt.
    let found = c.in_ok-head.ensures.group segment tells holds sound mark c.if-mark-ne0.false lt in
    (entered_is segment c.args.mark _ found.here found.group found.after found.is found.some refl refl found.count_is, refl)
