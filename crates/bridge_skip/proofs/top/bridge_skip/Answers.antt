use Rattle.std.proofs.Common.{inr, refl}
use Rattle.edge_disk.proofs.Calls.{calls_on}
use Rattle.bridge_parts.specs.Run.{disk_run, output_run}
use Rattle.bridge_skip.proofs.Running.{open_note, skips_after, not_opened}
use Rattle.bridge_skip.proofs.top.bridge_skip.Goals as goal

pub skip_open-note-requires-clause-earned : goal.skip_open-note-requires-clause-earned
skip_open-note-requires-clause-earned g c = λ now same printed. c.requires.earned now same (λ tells.
    let opened = c.in-Ok.ensures.opened tells in
    record { state = opened.0; stands = opened.1.stood; printed = printed tells opened.0 opened.1.reached })

pub returns-in-Ok-clause-run : goal.returns-in-Ok-clause-run
returns-in-Ok-clause-run g c =
    let old = g.D.Disk.moment c.args.disk in
    let mid = g.D.Disk.moment c.in-Ok.spool.disk in
    let new = g.D.Disk.moment c.skip_open-note.new.spool.disk in
    let did = c.skip_open-note.ensures in
    let note = c.skip_open-note.result in
    rw (c.of.ensures.note, c.of.ensures.disk, c.into_disk.ensures)
    record {
      known = open_note c.args.number note did.known;
      calls = calls_on _ _ old mid new c.in-Ok.ensures.calls (λ never. never) did.calls;
      writes = did.writes;
      done = inr (λ told.
          let opened = c.in-Ok.ensures.opened told in
          record {
            state = opened.0;
            stood = opened.1.stood;
            skips = skips_after c.args.number opened.0 g.D.Disk.tells _ _ old mid new _ note (c.in-Ok.ensures.any_moment told) (did.skipped opened.0 told opened.1.reached);
          });
    }

pub returns-in-Err-clause-run : goal.returns-in-Err-clause-run
returns-in-Err-clause-run g c =
    rw (c.of-in-Err.ensures.note, c.recover_note.ensures, c.of-in-Err.ensures.disk)
    (not_opened c.args.number (disk_run g.D.Disk.tells g.D.Disk.moment c.args.disk c.in-Err.field-0.disk)
    (output_run g.K.Sink.taken g.K.Sink.write_faults c.args.output.now c.args.output.now) c.in-Err.field-0.fault c.in-Err.ensures.calls c.in-Err.ensures.broken
    c.in-Err.ensures.any_moment (record { same = refl; taken = refl; faults = refl }))
