use Rattle.std.proofs.Common.{◌∙◌, sym, subst}
use Rattle.std.specs.Prelude.{Result}
use Rattle.edge_disk.proofs.Moments.{still_settled, untouched_refl}
use Rattle.spool_faults.specs.declared.fault.PendFault.{PendFault}
use Rattle.spool_faults.specs.declared.fault.PendFault.TheVariants.{DiskFault}
use Rattle.spool_log.specs.Knows.{IsStored}
use Rattle.spool_log.specs.State.{view}
use Rattle.spool_log.specs.Outcome.{Mends}
use Rattle.spool_log.proofs.Opens.Mending.{err_is, sure_mended, mend_fails, mend_finds}
use Rattle.spool_log.proofs.spool.Spool.mend.Goals as goal

pub returns-then-not-self-clause-mended : goal.returns-then-not-self-clause-mended
returns-then-not-self-clause-mended g c = λ s doubt tells held.
    (s, sure_mended s doubt c.args.self.now.memory c.args.self.now.doubt _ (g.met.D.Disk.lawful c.args.self.now.disk tells) c.if-not-self.true held)

pub returns-in_err-sync-clause-mended : goal.returns-in_err-sync-clause-mended
returns-in_err-sync-clause-mended g c = λ s doubt tells held.
    subst (λ (r : Result Unit PendFault). Mends s doubt r (view c.args.self.now.memory c.args.self.now.doubt (g.D.Disk.moment c.args.self.now.disk)) (view c.args.self.now.memory c.args.self.now.doubt (g.D.Disk.moment c.sync.new.self)))
    (sym (err_is _ _ c.from_residual.ensures.1))
    (mend_fails s doubt c.args.self.now.memory c.args.self.now.doubt _ (g.met.D.Disk.lawful c.args.self.now.disk tells) held _ (c.sync.ensures.told tells) _ (untouched_refl _) c.if-not-self.false DiskFault tt)

pub returns-in_err-self-clause-mended : goal.returns-in_err-self-clause-mended
returns-in_err-self-clause-mended g c = λ s doubt tells held.
    subst (λ (r : Result Unit PendFault). Mends s doubt r (view c.args.self.now.memory c.args.self.now.doubt (g.D.Disk.moment c.args.self.now.disk)) (view c.args.self.now.memory c.args.self.now.doubt (g.D.Disk.moment c.read_device.new.disk)))
    (sym (err_is _ _ c.from_residual-in_err-self.ensures.1))
    (mend_fails s doubt c.args.self.now.memory c.args.self.now.doubt _ (g.met.D.Disk.lawful c.args.self.now.disk tells) held _ (c.sync.ensures.told tells) _ (c.read_device.ensures.told tells) c.if-not-self.false c.in_err-self.field-0.0 (c.in_err-self.ensures.broken tells))

pub invariant_of-self-2 : goal.invariant_of-self-2
invariant_of-self-2 g c = record {
  lets = c.args.self.now.lets;
  long = c.read_device.ensures.calls.size ∙ c.in_ok-self.ensures.long;
  whole = c.args.self.now.whole;
  settled = λ is tells. still_settled _ _ (c.in_ok-sync.ensures.durable tells) (c.read_device.ensures.told tells);
  stored = λ is tells. let state = c.in_ok-self.ensures.found tells in ∣ (state.0, subst (IsStored state.0 c.in_ok-self.field-0) (sym (c.read_device.ensures.told tells).same) state.1) ∣₁;
}

pub returns-clause-mended : goal.returns-clause-mended
returns-clause-mended g c = λ s doubt tells held.
    mend_finds s doubt c.args.self.now.memory c.args.self.now.doubt _ (g.met.D.Disk.lawful c.args.self.now.disk tells) held _ (c.sync.ensures.told tells) _ (c.read_device.ensures.told tells) (c.in_ok-sync.ensures.durable tells) c.in_ok-self.field-0 (c.in_ok-self.ensures.found tells)
