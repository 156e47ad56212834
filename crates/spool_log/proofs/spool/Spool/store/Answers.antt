use Rattle.std.proofs.Common.{refl, sym, ◌∙◌, subst}
use Rattle.std.specs.Prelude.{Result}
use Rattle.spool_answers.specs.declared.receipt.Receipt.{Receipt}
use Rattle.spool_faults.specs.declared.fault.TakeFault.{TakeFault}
use Rattle.spool_answers.specs.Stages.{AllFollow}
use Rattle.spool_log.specs.State.{view}
use Rattle.spool_log.specs.Changing.Take.{StoresTo}
use Rattle.spool_answers.specs.Take.{Takes}
use Rattle.spool_state.specs.Segment.{need_of}
use Rattle.spool_log.proofs.Changes.Adding.{some_stage}
use Rattle.spool_answers.proofs.Adding.{adding_follow}
use Rattle.spool_log.proofs.Opens.Mending.{err_is}
use Rattle.spool_log.proofs.Numbers.{end_known}
use Rattle.spool_log.proofs.Changes.Storing.{refused, failed, done}
use Rattle.spool_log.proofs.spool.Spool.store.Goals as goal

pub returns-in_err-target-clause-taken : goal.returns-in_err-target-clause-taken
returns-in_err-target-clause-taken g c = λ s tells held.
    let known = c.args.self.now.memory in
    let d = c.args.self.now.doubt in
    let m = g.D.Disk.moment c.args.self.now.disk in
    let fault = c.in_err-target.field-0.0 in
    subst (λ (r : Result Receipt TakeFault). Takes s c.args.entries.now r × StoresTo s c.args.entries.now r (view known d m) (view known d m)) (sym (err_is _ _ c.from_residual.ensures.1))
    (c.in_err-target.ensures.answers s held.knows held.sound, refused s c.args.entries.now fault known d m (g.met.D.Disk.lawful c.args.self.now.disk tells) c.in_err-target.ensures.refusal held)

pub returns-in_err-add-clause-taken : goal.returns-in_err-add-clause-taken
returns-in_err-add-clause-taken g c = λ s tells held.
    let group = c.args.entries.now in
    let where_to = c.in_ok-target.ensures.answers s held.knows held.sound in
    let follow = subst (AllFollow s) where_to.1 (adding_follow s group held.sound) in
    let some = some_stage c.in_ok-target.target s c.args.self.now.memory (need_of group) group held.knows c.in_ok-target.ensures.fits.2 in
    let change = c.in_err-add.ensures.changes s tells held follow some in
    subst (λ (r : Result Receipt TakeFault). Takes s group r × StoresTo s group r (view c.args.self.now.memory c.args.self.now.doubt (g.D.Disk.moment c.args.self.now.disk)) (view c.add.new.self.memory c.add.new.self.doubt (g.D.Disk.moment c.add.new.self.disk)))
    (sym (err_is _ _ c.from_residual-in_err-add.ensures.1))
    (where_to.0, failed s group _ _ _ where_to.1 some held change.reached change.any_moment)

pub returns-clause-taken : goal.returns-clause-taken
returns-clause-taken g c = λ s tells held.
    let group = c.args.entries.now in
    let where_to = c.in_ok-target.ensures.answers s held.knows held.sound in
    let follow = subst (AllFollow s) where_to.1 (adding_follow s group held.sound) in
    let some = some_stage c.in_ok-target.target s c.args.self.now.memory (need_of group) group held.knows c.in_ok-target.ensures.fits.2 in
    let change = c.in_ok-add.ensures.changes s tells held follow some in
    ((where_to.0, c.end-first.ensures.end ∙ end_known s c.args.self.now.memory.active held.sound held.knows.active, refl), done s group _ _ _ _ where_to.1 some held change.reached change.any_moment)
