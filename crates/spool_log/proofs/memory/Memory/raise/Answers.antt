use Rattle.std.proofs.Common.{◌≡◌, ◌⊎◌, inl, List, [], ◌∷◌, refl, sym, ◌∙◌, ap, subst}
use Rattle.std.specs.Prelude.{Result, IfErr}
use Rattle.known_numbers.specs.declared.stretch.Stretch.{Stretch}
use Rattle.known_numbers.specs.Numbers.{Numbers, numbers_of, IsKnown, IsSound}
use Rattle.edge_disk.specs.Disk.{LeavesOnly}
use Rattle.spool_log.specs.Device.{numbers_in}
use Rattle.spool_answers.specs.Stages.{StandsForOne}
use Rattle.spool_log.specs.Opening.{raise_stages}
use Rattle.spool_log.specs.declared.opening.Opening.TheVariants.{Raise}
use Rattle.spool_log.specs.declared.fault.RecoverFault.{RecoverFault}
use Rattle.spool_log.specs.declared.fault.RecoverFault.TheVariants.{DiskFault}
use Rattle.spool_log.proofs.Opens.Mending.{err_is}
use Rattle.spool_log.proofs.Opens.Recovering.{unwritten, kept_numbers, raised_as}
use Rattle.spool_log.proofs.Stored.{stays}
use Rattle.spool_log.proofs.memory.Memory.raise.Goals as goal

pub returns-then-content-eq-LAST_RUN-clause-any_moment : goal.returns-then-content-eq-LAST_RUN-clause-any_moment
returns-then-content-eq-LAST_RUN-clause-any_moment g c = λ s tells stored.
    stays s (raise_stages Raise s) _ (g.met.D.Disk.lawful c.args.disk.now tells) (c.requires.settled tells) stored.stands

pub set-requires : goal.set-requires
set-requires g c =
    let is = ap (λ (l : List Stretch). numbers_of c.value-content.result.now.cursor l) c.deref.ensures.value ∙ ap numbers_in c.value-content.ensures in
    subst IsSound (sym is) (record { apart = c.args.self.now.apart; few = c.args.self.now.register.few })

pub write_register-requires-clause-numbers : goal.write_register-requires-clause-numbers
write_register-requires-clause-numbers g c = kept_numbers c.args.self.now c.value-content.result.now c.set.new.self c.value-content.ensures (c.set.ensures ∙ ap (λ (l : List Stretch). numbers_of c.value-content.result.now.cursor l) c.deref.ensures.value)

pub returns-in_err-write_register-clause-any_moment : goal.returns-in_err-write_register-clause-any_moment
returns-in_err-write_register-clause-any_moment g c = λ s tells stored.
    let old = g.D.Disk.moment c.args.disk.now in
    let new = g.D.Disk.moment c.write_register.new.disk in
    raised_as s c.args.self.now c.value-content.result.now _ c.set.new.self (λ t. LeavesOnly (StandsForOne s (t ∷ [])) old new) stored.knows c.value-content.ensures refl (c.set.ensures ∙ ap (λ (l : List Stretch). numbers_of c.value-content.result.now.cursor l) c.deref.ensures.value) (c.write_register.ensures.any_moment s tells stored)

pub returns-clause-any_moment : goal.returns-clause-any_moment
returns-clause-any_moment g c = λ s tells stored.
    let old = g.D.Disk.moment c.args.disk.now in
    let new = g.D.Disk.moment c.write_register.new.disk in
    raised_as s c.args.self.now c.value-content.result.now _ c.set.new.self (λ t. LeavesOnly (StandsForOne s (t ∷ [])) old new) stored.knows c.value-content.ensures refl (c.set.ensures ∙ ap (λ (l : List Stretch). numbers_of c.value-content.result.now.cursor l) c.deref.ensures.value) (c.write_register.ensures.any_moment s tells stored)

pub returns-in_err-write_register-clause-unchanged : goal.returns-in_err-write_register-clause-unchanged
returns-in_err-write_register-clause-unchanged g c =
    subst (λ (r : Result Unit RecoverFault). IfErr r (λ fault. (fault ≡ DiskFault) ⊎ (c.write_register.new.disk ≡ c.args.disk.now))) (sym (err_is _ _ c.from_residual.ensures.1))
    (unwritten _ c.in_err-write_register.field-0.0 (c.write_register.new.disk ≡ c.args.disk.now) c.in_err-write_register.ensures.worn c.write_register.ensures.unchanged)

pub write_register-requires-clause-keeps : goal.write_register-requires-clause-keeps
write_register-requires-clause-keeps g c = λ n is.
    let same = ap numbers_in (sym c.value-content.ensures) ∙ sym (c.set.ensures ∙ ap (λ (l : List Stretch). numbers_of c.value-content.result.now.cursor l) c.deref.ensures.value) in
    subst (λ (a : Numbers). IsKnown a n) same is

pub write_register-requires-clause-earned : goal.write_register-requires-clause-earned
write_register-requires-clause-earned g c = λ n is.
    let same = c.set.ensures ∙ ap (λ (l : List Stretch). numbers_of c.value-content.result.now.cursor l) c.deref.ensures.value ∙ ap numbers_in c.value-content.ensures in
    inl (subst (λ (a : Numbers). IsKnown a n) same is)
