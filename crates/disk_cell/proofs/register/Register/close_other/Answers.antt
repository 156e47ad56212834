use Rattle.std.proofs.Common.{◌∙◌, ℕ, ap, sym, subst, arith}
use Rattle.disk_cell.specs.Cell.{place_of}
use Rattle.disk_cell.proofs.Setting.{closing_moments, closing_outside}
use Rattle.disk_cell.proofs.register.Register.close_other.Goals as goal

pub returns-clause-any_moment : goal.returns-clause-any_moment
returns-clause-any_moment g c = λ tells.
    closing_moments c.args.self.now _ _ (g.met.D.Disk.lawful c.args.disk.now tells) c.requires.room c.if-not-self.false (c.requires.known tells) c.offset.result (c.offset.ensures ∙ ap (λ x. place_of x) c.other.ensures) (c.close_gate.ensures.any_moment tells)

pub returns-clause-outside : goal.returns-clause-outside
returns-clause-outside g c =
    closing_outside c.close_gate.result g.D.Disk.tells c.args.self.now.counting c.offset.result _ _ (c.offset.ensures ∙ ap (λ x. place_of x) c.other.ensures) (λ tells. omega (arith, c.requires.room, (g.met.D.Disk.lawful c.args.disk.now tells).reads_size)) c.close_gate.ensures.written

pub close_gate-requires-clause-leave : goal.close_gate-requires-clause-leave
close_gate-requires-clause-leave g c =
    subst (λ (k : ℕ). ∥ g.D.Disk.may_tear c.args.disk.now k 1 ∥₁) (sym (c.offset.ensures ∙ ap (λ x. place_of x) c.other.ensures)) (c.requires.leave c.if-not-self.false)
