use Rattle.std.proofs.Common.{inl, inr, refl}
use Rattle.cli_files.proofs.rescue.run_check.Goals as goal

pub returns-in-Ok-clause-done : goal.returns-in-Ok-clause-done
returns-in-Ok-clause-done g c =
    let done = c.rescue_over-found in
    inr (c.in-Ok.disk, done.result.disk, c.in-Ok.ensures, (done.result.report, done.ensures.run))

pub returns-in-Err-clause-done : goal.returns-in-Err-clause-done
returns-in-Err-clause-done g c = inl (c.refuse-ending.ensures.note, refl)
