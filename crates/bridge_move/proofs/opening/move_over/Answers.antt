use Rattle.std.proofs.Common.{inl, inr, refl}
use Rattle.edge_disk.proofs.Calls.{calls_none}
use Rattle.bridge_parts.specs.Run.{output_run}
use Rattle.bridge_move.proofs.Ending.{closed_calls, tells_on}
use Rattle.bridge_move.proofs.Opened.{closed_images, opened_sure, moves_opened}
use Rattle.bridge_move.proofs.opening.move_over.Goals as goal

-- the source is refused

pub returns-in-Err-clause-disks : goal.returns-in-Err-clause-disks
returns-in-Err-clause-disks g c =
    rw (c.of.ensures.note, c.recover_note.ensures, c.of.ensures.source, c.of.ensures.target)
    (inl (closed_calls c.in-Err.field-0.fault _ _ c.in-Err.ensures.calls, calls_none _))

pub returns-in-Err-clause-moved : goal.returns-in-Err-clause-moved
returns-in-Err-clause-moved g c =
    rw (c.of.ensures.note, c.recover_note.ensures, c.of.ensures.source, c.of.ensures.target)
    (inl (
      record {
        fault = c.in-Err.field-0.fault;
        note_is = refl;
        why = c.in-Err.ensures.broken;
        any_moment = λ told. closed_images c.in-Err.field-0.fault _ _ (c.in-Err.ensures.any_moment told);
      },
      refl,
      record { same = refl; taken = refl; faults = refl },
    ))

-- the target is refused

pub returns-in-Err-recover-clause-moved : goal.returns-in-Err-recover-clause-moved
returns-in-Err-recover-clause-moved g c =
    rw (c.of-in-Err-recover.ensures.note, c.recover_note-in-Err-recover.ensures, c.of-in-Err-recover.ensures.source, c.into_disk.ensures, c.of-in-Err-recover.ensures.target)
    (inr (inl (
      (λ told. let opened = c.in-Ok.ensures.opened told in record { state = opened.0; stood = opened.1.stood; any_moment = c.in-Ok.ensures.any_moment told }),
      record {
        fault = c.in-Err-recover.field-0.fault;
        note_is = refl;
        why = c.in-Err-recover.ensures.broken;
        any_moment = λ told. closed_images c.in-Err-recover.field-0.fault _ _ (c.in-Err-recover.ensures.any_moment told);
      },
      record { same = refl; taken = refl; faults = refl },
    )))

-- both are opened

pub returns-in-Ok-recover-clause-disks : goal.returns-in-Ok-recover-clause-disks
returns-in-Ok-recover-clause-disks g c = tells_on _ _ _ _ _ _ _ c.in-Ok.ensures.calls c.in-Ok-recover.ensures.calls c.move_open.ensures.disks

pub returns-in-Ok-recover-clause-moved : goal.returns-in-Ok-recover-clause-moved
returns-in-Ok-recover-clause-moved g c =
    let source = c.in-Ok.source in
    let target = c.in-Ok-recover.target in
    inr (inr (moves_opened g.D.Disk g.E.Disk c.args.tag c.args.source c.args.target source target c.move_open.result
    (output_run g.K.Sink.taken g.K.Sink.write_faults c.args.output.now c.move_open.new.output) c.move_open.ensures.ended
    (opened_sure g.D.Disk.tells (g.D.Disk.moment c.args.source).reads source.memory source.doubt (g.D.Disk.moment source.disk) c.in-Ok.ensures.sure c.in-Ok.ensures.opened)
    (opened_sure g.E.Disk.tells (g.E.Disk.moment c.args.target).reads target.memory target.doubt (g.E.Disk.moment target.disk) c.in-Ok-recover.ensures.sure c.in-Ok-recover.ensures.opened)
    c.in-Ok.ensures.any_moment c.in-Ok-recover.ensures.any_moment c.move_open.ensures.any_moment))
