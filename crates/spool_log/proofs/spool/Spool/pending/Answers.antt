use Rattle.std.proofs.Common.{inr, ℕ, List, Ok, Err, sym, ◌∙◌, subst}
use Rattle.std.specs.Prelude.{Result}
use Rattle.std.specs.Global.{Vec}
use Rattle.std.proofs.Math.Logic.{∥∥₁_elim}
use Rattle.std.proofs.Props.{props}
use Rattle.spool_state.specs.Image.{slot_at}
use Rattle.edge_disk.proofs.Moments.{still_settled}
use Rattle.spool_faults.specs.declared.fault.PendFault.{PendFault}
use Rattle.spool_answers.specs.declared.numbered.Numbered.{Numbered}
use Rattle.spool_log.specs.Knows.{IsStored}
use Rattle.spool_log.specs.State.{KnowsDevice, view}
use Rattle.spool_log.specs.Outcome.{PendsFrom}
use Rattle.spool_log.proofs.Opens.Mending.{err_is}
use Rattle.spool_log.proofs.Scans.ReadOn.{reads_on}
use Rattle.spool_log.proofs.spool.Spool.pending.Goals as goal

pub invariant_of-self : goal.invariant_of-self
invariant_of-self g c = record {
  lets = c.mend.new.self.lets;
  long = c.read_from.ensures.calls.size ∙ c.mend.new.self.long;
  whole = c.mend.new.self.whole;
  settled = λ is tells. still_settled _ _ (c.mend.new.self.settled is tells) (c.read_from.ensures.told tells);
  stored = λ is tells. subst (λ (d : List ℕ). KnowsDevice c.mend.new.self.memory d) (sym (c.read_from.ensures.told tells).same) (c.mend.new.self.stored is tells);
}

pub invariant_of-self-2 : goal.invariant_of-self-2
invariant_of-self-2 g c =
    let memory = c.mend.new.self.memory in
    let same = c.read_up.ensures.same_device in
    record {
      lets = c.mend.new.self.lets;
      long = c.read_from.ensures.calls.size ∙ c.mend.new.self.long ∙ (λ i. slot_at (sym same.0 i) (sym same.1 i));
      whole = c.mend.new.self.whole;
      settled = λ is tells. still_settled _ _ (c.mend.new.self.settled is tells) (c.read_from.ensures.told tells);
      stored = λ is tells. ∥∥₁_elim (c.mend.new.self.stored is tells) (hlevel props) (λ p.
          let here = subst (λ (d : List ℕ). IsStored p.0 memory d) (sym (c.read_from.ensures.told tells).same) p.1 in
          ∣ (p.0, c.read_up.ensures.stored p.0 _ here (c.in_ok-given.ensures.read p.0 tells p.1).1) ∣₁);
    }

pub returns-clause-pends : goal.returns-clause-pends
returns-clause-pends g c = λ s doubt tells held.
    let mended = c.in_ok-mend.ensures.mended s doubt tells held in
    let memory = c.mend.new.self.memory in
    let mid = g.D.Disk.moment c.mend.new.self.disk in
    let told = c.read_from.ensures.told tells in
    let read = reads_on s doubt mended.0 c.args.from c.args.most (Ok c.in_ok-given.given) _ memory c.read_up.new.self c.mend.new.self.doubt mid _ mended.1 (g.met.D.Disk.lawful c.mend.new.self.disk tells)
    (c.mend.new.self.stored c.in_ok-mend.ensures.sure tells) told (λ t stored.
    let done = c.in_ok-given.ensures.read t tells stored in
    (done.0, (c.read_up.ensures.stored t _ (subst (λ (d : List ℕ). IsStored t memory d) (sym told.same) stored) done.1).knows)) in
    inr (mended.0, read.0, read.1)

pub returns-in_err-given-clause-pends : goal.returns-in_err-given-clause-pends
returns-in_err-given-clause-pends g c = λ s doubt tells held.
    let mended = c.in_ok-mend.ensures.mended s doubt tells held in
    let memory = c.mend.new.self.memory in
    let mid = g.D.Disk.moment c.mend.new.self.disk in
    let new = g.D.Disk.moment c.read_from.new.disk in
    let read = reads_on s doubt mended.0 c.args.from c.args.most (Err c.in_err-given.field-0.0) _ memory memory c.mend.new.self.doubt mid _ mended.1 (g.met.D.Disk.lawful c.mend.new.self.disk tells)
    (c.mend.new.self.stored c.in_ok-mend.ensures.sure tells) (c.read_from.ensures.told tells) (λ t stored. (c.in_err-given.ensures.read t tells stored, stored.knows)) in
    subst (λ (r : Result (Vec Numbered) PendFault). PendsFrom s doubt c.args.from c.args.most r (view c.args.self.now.memory c.args.self.now.doubt (g.D.Disk.moment c.args.self.now.disk)) (view memory c.mend.new.self.doubt new))
    (sym (err_is _ _ c.from_residual-in_err-given.ensures.1)) (inr (mended.0, read.0, read.1))
