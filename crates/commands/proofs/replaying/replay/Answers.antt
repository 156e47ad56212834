use Rattle.std.proofs.Common.{◌≡◌, inl, inr, refl}
use Rattle.commands.proofs.Failing.{tells_on}
use Rattle.commands.proofs.Answering.{is_durable}
use Rattle.commands.proofs.Durable.{serves_input, stored_so}
use Rattle.commands.proofs.Sure.{unopened_calls, unopened_reads, unopened_writes}
use Rattle.commands.proofs.replaying.replay.Goals as goal

pub serve_input-requires-clause-answers : goal.serve_input-requires-clause-answers
serve_input-requires-clause-answers g c = λ now bytes calls text read kept carried.
    let spool = c.in-Ok.spool in
    let opened = c.in-Ok.ensures in
    c.requires.answers now bytes text read
    (is_durable g.D.Disk.tells (g.D.Disk.moment c.args.disk) (g.D.Disk.moment now) c.args.rules _ bytes calls text carried
    (stored_so c.args.rules g.D.Disk.tells (now ≡ spool.disk) (g.D.Disk.moment c.args.disk) (g.D.Disk.moment spool.disk)
    (g.D.Disk.moment now) spool.memory spool.doubt opened.sure opened.opened opened.any_moment calls kept))

pub returns-in-Ok : goal.returns-in-Ok
returns-in-Ok g c = record {
  calls = tells_on _ _ _ _ _ _ c.in-Ok.ensures.calls (λ none. none) c.serve_input.ensures.calls;
  reads = c.serve_input.ensures.reads;
  writes = c.serve_input.ensures.writes;
  replayed = inr (serves_input c.args.rules g.D.Disk.tells _ (g.D.Disk.moment c.args.disk) (g.D.Disk.moment c.in-Ok.spool.disk)
      (g.D.Disk.moment c.serve_input.result.disk) c.in-Ok.spool.memory c.in-Ok.spool.doubt c.in-Ok.ensures.sure c.in-Ok.ensures.opened
      c.in-Ok.ensures.any_moment _ _ c.serve_input.ensures.served);
}

pub returns-in-Err : goal.returns-in-Err
returns-in-Err g c =
    let fault = c.in-Err.field-0.fault in
    rw (c.of.ensures.note, c.recover_note.ensures, c.of.ensures.disk) (record {
      calls = inl (unopened_calls fault _ _ c.in-Err.ensures.calls);
      reads = unopened_reads fault _ _ refl;
      writes = unopened_writes fault _ _ refl;
      replayed = inl (
        record { fault = fault; note_is = refl; why = c.in-Err.ensures.broken; any_moment = c.in-Err.ensures.any_moment },
        record { same = refl; given = refl; left = refl; faults = refl },
        record { same = refl; taken = refl; faults = refl },
      );
    })
