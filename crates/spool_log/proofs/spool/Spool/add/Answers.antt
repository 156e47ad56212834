use Rattle.std.proofs.Common.{true, sym, ◌∙◌, subst}
use Rattle.std.specs.Prelude.{Result}
use Rattle.std.proofs.Math.Logic.{∥∥₁_map}
use Rattle.spool_state.specs.Image.{slot_at}
use Rattle.edge_disk.specs.declared.disk.DiskFault.{DiskFault}
use Rattle.spool_answers.specs.Stages.{last_of}
use Rattle.spool_log.specs.State.{view, Changes}
use Rattle.spool_log.specs.Changing.Target.{stages_at}
use Rattle.spool_log.proofs.Numbers.{length-lent}
use Rattle.spool_log.proofs.Stored.{stored_of, in_stored, in_doubt}
use Rattle.spool_log.proofs.Opens.Mending.{err_is}
use Rattle.spool_log.proofs.spool.Spool.add.Goals as goal

pub returns-in_err-add-clause-changes : goal.returns-in_err-add-clause-changes
returns-in_err-add-clause-changes g c = λ s tells held follow some.
    let known = c.args.self.now.memory in
    let old = g.D.Disk.moment c.args.self.now.disk in
    let new = g.D.Disk.moment c.add.new.disk in
    let stages = stages_at c.args.target s c.args.entries.now in
    let stored = stored_of s known c.args.self.now.doubt old held (g.met.D.Disk.lawful c.args.self.now.disk tells) (c.args.self.now.stored c.requires.sure tells) in
    let run = c.add.ensures.any_moment s tells stored in
    subst (λ (r : Result Unit DiskFault). Changes s stages r (view known c.args.self.now.doubt old) (view c.add.new.self true new)) (sym (err_is _ _ c.from_residual.ensures.1))
    (record { reached = in_doubt s stages known c.add.new.self old new stored c.in_err-add.ensures.err run follow some; any_moment = run })

pub invariant_of-self-2-clause-long : goal.invariant_of-self-2-clause-long
invariant_of-self-2-clause-long g c = c.add.ensures.calls.size ∙ c.args.self.now.long ∙ (λ i. slot_at (sym c.add.ensures.same_device.0 i) (sym c.add.ensures.same_device.1 i))

pub invariant_of-self-2-clause-stored : goal.invariant_of-self-2-clause-stored
invariant_of-self-2-clause-stored g c = λ is tells.
    ∥∥₁_map (c.args.self.now.stored c.requires.sure tells) (λ p. (last_of p.0 (stages_at c.args.target p.0 c.args.entries.now), c.in_ok-add.ensures.stored p.0 tells p.1))

pub returns-clause-changes : goal.returns-clause-changes
returns-clause-changes g c = λ s tells held follow some.
    let known = c.args.self.now.memory in
    let old = g.D.Disk.moment c.args.self.now.disk in
    let stored = stored_of s known c.args.self.now.doubt old held (g.met.D.Disk.lawful c.args.self.now.disk tells) (c.args.self.now.stored c.requires.sure tells) in
    record {
      reached = in_stored (last_of s (stages_at c.args.target s c.args.entries.now)) c.add.new.self _ (c.in_ok-add.ensures.durable tells) (c.in_ok-add.ensures.stored s tells stored);
      any_moment = c.add.ensures.any_moment s tells stored;
    }

pub invariant_of-self-2-clause-whole : goal.invariant_of-self-2-clause-whole
invariant_of-self-2-clause-whole g c = length-lent _ c.deref_mut.result.now c.add.new.buffer c.args.self.now.buffer.items c.deref_mut.ensures.value c.deref_mut.ensures.len c.add.auto.buffer c.args.self.now.whole
