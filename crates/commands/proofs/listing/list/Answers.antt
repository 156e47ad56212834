use Rattle.std.proofs.Common.{refl}
use Rattle.commands.proofs.Sure.{read_on, listed, unlisted}
use Rattle.commands.proofs.listing.list.Goals as goal

pub returns-in-Ok : goal.returns-in-Ok
returns-in-Ok g c =
    let m = g.D.Disk.moment c.args.disk in
    rw (c.of.ensures.note, c.of.ensures.disk, c.into_disk.ensures)
    (listed _ _ _ _ (g.D.Disk.moment c.in-Ok.spool.disk) c.print_left-note.ensures.known c.in-Ok.ensures.calls c.print_left-note.ensures.calls
    c.print_left-note.ensures.writes
    (λ told.
    let opened = c.in-Ok.ensures.opened told in
    (opened.0, opened.1.stood, c.print_left-note.ensures.printed opened.0 told opened.1.reached))
    (λ told.
    let opened = c.in-Ok.ensures.opened told in
    read_on m _ _ (c.in-Ok.ensures.any_moment told) (c.print_left-note.ensures.kept opened.0 told opened.1.reached)))

pub returns-in-Err : goal.returns-in-Err
returns-in-Err g c = rw (c.of-in-Err.ensures.note, c.recover_note.ensures, c.of-in-Err.ensures.disk)
    (unlisted _ _ _ c.in-Err.field-0.fault c.in-Err.ensures.calls c.in-Err.ensures.broken c.in-Err.ensures.any_moment
    (record { same = refl; taken = refl; faults = refl }))
