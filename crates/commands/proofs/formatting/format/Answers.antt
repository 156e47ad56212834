use Rattle.std.proofs.Common.{refl, ap}
use Rattle.edge_disk.proofs.Calls.{calls_as}
use Rattle.std.specs.Prelude.{Err}
use Rattle.commands.proofs.Making.{formatted, wrong_length, disk_failed}
use Rattle.commands.proofs.formatting.format.Goals as goal

pub returns-in-Ok : goal.returns-in-Ok
returns-in-Ok g c = formatted _ _ _ _ _ (calls_as _ _ _ _ c.in-Ok.ensures.calls (λ by. absurd (c.print_line.ensures.undisturbed by)) (λ by. absurd (cc)))
    c.print_line.ensures.writes c.in-Ok.ensures.length c.in-Ok.ensures.durable c.in-Ok.ensures.empty c.print_line.ensures.line c.in-Ok.ensures.any_moment

pub returns-in-Err-WrongLength : goal.returns-in-Err-WrongLength
returns-in-Err-WrongLength g c =
    let came = c.in-Err-WrongLength.ensures in
    let wrong = c.in-Err-WrongLength.field-0-is in
    rw wrong (wrong_length _ _ _ _ _ _ (rw wrong at came.length) (calls_as _ _ _ _ came.calls (λ by. absurd (cc)) (λ by. absurd (cc)))
    came.unchanged (record { same = refl; taken = refl; faults = refl }) came.any_moment)

pub returns-in-Err-DiskFault : goal.returns-in-Err-DiskFault
returns-in-Err-DiskFault g c =
    let came = c.in-Err-DiskFault.ensures in
    let failed = c.in-Err-DiskFault.field-0-is in
    disk_failed _ _ _ _ (rw failed at came.length) (calls_as _ _ _ _ came.calls (λ by. ap Err failed) (λ by. refl))
    (record { same = refl; taken = refl; faults = refl }) came.any_moment
