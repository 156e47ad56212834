use Rattle.std.proofs.Common.{refl, sym, subst, inl, inr}
use Rattle.edge_disk.specs.Disk.{LeavesOnly}
use Rattle.edge_disk.proofs.Calls.{calls_on}
use Rattle.commands.proofs.Forwarding.{had_more, undrained_to, was_idle, was_placed}
use Rattle.commands.proofs.Releasing.{may_mark}
use Rattle.commands.proofs.placing.drain_to.Goals as goal

pub send_there-requires-clause-releases : goal.send_there-requires-clause-releases
send_there-requires-clause-releases g c =
    let opened = c.in-Ok.ensures in
    may_mark g.D.Disk.tells g.D.Disk.moment c.args.disk c.in-Ok.spool.disk c.in-Ok.spool.memory c.in-Ok.spool.doubt c.args.outward.now _
    g.D.Disk.may_release opened.opened opened.any_moment opened.sure c.requires.releases

pub returns-in-Ok : goal.returns-in-Ok
returns-in-Ok g c =
    let tells = g.D.Disk.tells in
    let old = g.D.Disk.moment c.args.disk in
    let mid = g.D.Disk.moment c.in-Ok.spool.disk in
    let new = g.D.Disk.moment c.send_there.result.disk in
    let memory = c.in-Ok.spool.memory in
    let doubt = c.in-Ok.spool.doubt in
    let opened = c.in-Ok.ensures in
    let did = c.send_there.ensures in
    record {
      known = did.known;
      calls = calls_on _ _ _ _ _ opened.calls (λ never. never) did.calls;
      reads = did.reads;
      writes = did.writes;
      dials = did.dials;
      bound = did.bound;
      drained = inr (elim did.placed [
        | inl (none, still, says) ↦ inl (record {
          idle = was_idle tells old mid new memory doubt opened.opened none
              (λ told. subst (λ (d : _). LeavesOnly old.image old (g.D.Disk.moment d)) (sym still) (opened.any_moment told));
          says = says;
        })
        | inr (more, inl (still, dial)) ↦ inr (inl (record {
          pending = had_more tells old mid new memory doubt opened.opened more
              (λ told. subst (λ (d : _). LeavesOnly old.image old (g.D.Disk.moment d)) (sym still) (opened.any_moment told));
          dial = dial;
        }))
        | inr (more, inr there) ↦ inr (inr (was_placed tells old mid new memory doubt opened.opened _ _ opened.any_moment opened.sure more c.args.outward.now
            c.args.place.now _ _ _ there))
      ]);
    }

pub returns-in-Err : goal.returns-in-Err
returns-in-Err g c = rw (c.of.ensures.note, c.recover_note.ensures, c.of.ensures.disk)
    (undrained_to _ _ _ c.in-Err.field-0.fault c.in-Err.ensures.calls c.in-Err.ensures.broken c.in-Err.ensures.any_moment
    (record { same = refl; taken = refl; faults = refl }) _ _ (record { same = refl; told = refl }))
