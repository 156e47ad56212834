use Rattle.std.proofs.Common.{inl, inr, sym, subst}
use Rattle.bridge_restore.specs.RestoreRun.{IsRestoreNote}
use Rattle.cli_files.proofs.restore.run_restore.Goals as goal

pub returns-in-Ok-clause-known : goal.returns-in-Ok-clause-known
returns-in-Ok-clause-known g c = c.restore_over-restored.ensures.run.known

pub returns-in-Ok-clause-done : goal.returns-in-Ok-clause-done
returns-in-Ok-clause-done g c =
    let done = c.restore_over-restored in
    inr (c.in-Ok.disk, c.in-Ok.target, done.result.disk, done.result.target, c.in-Ok.ensures.0, c.in-Ok.ensures.1, (done.result.report, done.result.stored, done.ensures.run))

pub returns-in-Err-clause-known : goal.returns-in-Err-clause-known
returns-in-Err-clause-known g c =
    elim c.refuse_pair-ending.ensures [ inl is ↦ subst IsRestoreNote (sym is) tt | inr is ↦ subst IsRestoreNote (sym is) tt ]

pub returns-in-Err-clause-done : goal.returns-in-Err-clause-done
returns-in-Err-clause-done g c = inl (c.refuse_pair-ending.ensures, tt)
