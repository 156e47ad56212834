use Rattle.std.proofs.Common.{refl, sym, subst, arith}
use Rattle.spool_state.specs.Image.{HoldsSegment}
use Rattle.spool_slots.proofs.Faults.{handed}
use Rattle.spool_slots.proofs.Marks.{entered_is, group_passed, in_group}
use Rattle.spool_slots.proofs.pass.pass_some.Goals as goal

pub returns-then-mark-ne0-clause-passed : goal.returns-then-mark-ne0-clause-passed
returns-then-mark-ne0-clause-passed g c = λ segment tells holds sound mark le. c.pass_entry.ensures.passed segment tells holds sound (in_group segment c.args.mark (omega (arith, c.if-mark-ne0.true)) mark)

pub returns-in_err-head-clause-passed : goal.returns-in_err-head-clause-passed
returns-in_err-head-clause-passed g c = λ segment tells holds sound mark le.
    handed _ _ _ _ c.from_residual.ensures.1 (c.in_err-head.ensures.group segment tells holds sound mark c.if-mark-ne0.false (omega (arith, c.requires.number, le)))

pub returns-then-from-number-clause-passed : goal.returns-then-from-number-clause-passed
returns-then-from-number-clause-passed g c = λ segment tells holds sound mark le.
    let found = c.in_ok-head.ensures.group segment tells holds sound mark c.if-mark-ne0.false (omega (arith, c.requires.number, le)) in
    c.pass_entry-then-from-number.ensures.passed segment tells (subst (HoldsSegment c.args.at c.args.size segment) (sym (c.group_at.ensures.told tells).same) holds) sound
    (entered_is segment c.args.mark _ found.here found.group found.after found.is found.some refl refl found.count_is)

pub returns-clause-passed : goal.returns-clause-passed
returns-clause-passed g c = λ segment tells holds sound mark le.
    let found = c.in_ok-head.ensures.group segment tells holds sound mark c.if-mark-ne0.false (omega (arith, c.requires.number, le)) in
    group_passed segment c.args.mark _ c.in_ok-head.head found (omega (arith, c.from.ensures)) (omega arith) refl
