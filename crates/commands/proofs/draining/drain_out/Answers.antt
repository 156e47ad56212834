use Rattle.std.proofs.Common.{refl, sym, ap, subst, inl, inr}
use Rattle.edge_disk.specs.Disk.{LeavesOnly}
use Rattle.edge_disk.proofs.Calls.{calls_on}
use Rattle.spool_log.specs.Memory.{cursor_of, end_of}
use Rattle.commands.proofs.Forwarding.{is_pending, undrained, was_idle, was_streamed}
use Rattle.commands.proofs.Releasing.{may_mark}
use Rattle.commands.proofs.draining.drain_out.Goals as goal

pub send_out-requires-clause-releases : goal.send_out-requires-clause-releases
send_out-requires-clause-releases g c =
    let opened = c.in-Ok.ensures in
    may_mark g.D.Disk.tells g.D.Disk.moment c.args.disk c.in-Ok.spool.disk c.in-Ok.spool.memory c.in-Ok.spool.doubt c.args.outward.now _
    g.D.Disk.may_release opened.opened opened.any_moment opened.sure c.requires.releases

pub returns-in-Ok-clause-told : goal.returns-in-Ok-clause-told
returns-in-Ok-clause-told g c = g.met.N.Net.pauses_keep _ _ c.send_out.ensures.paused

pub returns-in-Ok-clause-drained : goal.returns-in-Ok-clause-drained
returns-in-Ok-clause-drained g c =
    let tells = g.D.Disk.tells in
    let old = g.D.Disk.moment c.args.disk in
    let mid = g.D.Disk.moment c.in-Ok.spool.disk in
    let new = g.D.Disk.moment c.send_out.result.disk in
    let memory = c.in-Ok.spool.memory in
    let doubt = c.in-Ok.spool.doubt in
    let opened = c.in-Ok.ensures in
    let did = c.send_out.ensures in
    record {
      known = did.known;
      calls = calls_on _ _ _ _ _ opened.calls (λ never. never) did.calls;
      reads = did.reads;
      writes = did.writes;
      dials = did.dials;
      drained = elim (is_pending (cursor_of memory) (end_of memory)) [
        | inl more ↦ inr (inr (was_streamed tells old mid new memory doubt opened.opened _ _ opened.any_moment opened.sure more c.args.outward.now _ _ (did.sent more)))
        | inr none ↦
            let still = did.idle none in
            inr (inl (
              was_idle tells old mid new memory doubt opened.opened none
                  (λ told. subst (λ (d : _). LeavesOnly old.image old (g.D.Disk.moment d)) (sym still.3) (opened.any_moment told)),
              still.2,
              record {
                same = still.0;
                given = ap (λ s. g.S.Source.given s) still.0;
                left = ap (λ s. g.S.Source.left s) still.0;
                faults = ap (λ s. g.S.Source.read_faults s) still.0;
              },
              record { same = still.1; taken = ap (λ k. g.K.Sink.taken k) still.1; faults = ap (λ k. g.K.Sink.write_faults k) still.1 },
            ))
      ];
    }

pub returns-in-Err-clause-drained : goal.returns-in-Err-clause-drained
returns-in-Err-clause-drained g c = rw (c.of.ensures.note, c.recover_note.ensures, c.of.ensures.disk)
    (undrained _ _ _ c.in-Err.field-0.fault c.in-Err.ensures.calls c.in-Err.ensures.broken c.in-Err.ensures.any_moment
    (record { same = refl; taken = refl; faults = refl }) _ (record { same = refl; given = refl; left = refl; faults = refl }))
