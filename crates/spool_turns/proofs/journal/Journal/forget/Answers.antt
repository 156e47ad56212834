use Rattle.std.proofs.Common.{refl, sym, ◌∙◌, subst}
use Rattle.hec_ids.specs.Rows.{Forgets}
use Rattle.spool_turns.proofs.OtherIds.{run_forgotten}
use Rattle.spool_turns.proofs.Kept.{idle_kept, idle_pass, idle_calls, idle_real}
use Rattle.spool_turns.proofs.journal.Journal.forget.Goals as goal

pub invariant_of-self : goal.invariant_of-self
invariant_of-self g c =
    let i = c.self.invariant in
    let e = c.enter_idle.ensures in
    (e.tables.0 ∙ i.0, i.1, idle_kept _ _ _ _ _ _ _ _ _ _ _ i.2 tt e.knew refl (run_forgotten c.self.inside.ids c.forget-answer.new.self c.args.channel c.args.id c.forget-answer.result c.forget-answer.ensures) (λ x met same leaving. (c.forget-answer.new.self, subst (λ t. Forgets t c.args.channel c.args.id c.forget-answer.result c.forget-answer.new.self) (sym same) c.forget-answer.ensures, leaving)) (g.met.D.Disk.lawful _) _ e.locked, i.3)

pub invariant_of-pass : goal.invariant_of-pass
invariant_of-pass g c =
    let i = c.self.invariant in
    let e = c.enter_idle.ensures in
    let after = idle_pass _ _ _ _ _ _ _ _ _ _ _ i.2 tt e.knew refl (run_forgotten c.self.inside.ids c.forget-answer.new.self c.args.channel c.args.id c.forget-answer.result c.forget-answer.ensures) (λ x met same leaving. (c.forget-answer.new.self, subst (λ t. Forgets t c.args.channel c.args.id c.forget-answer.result c.forget-answer.new.self) (sym same) c.forget-answer.ensures, leaving)) (g.met.D.Disk.lawful _) _ e.pass in
    (e.tables.1 ∙ c.pass.invariant.0, after.0, after.1, after.2 ∙ c.pass.invariant.3, c.pass.invariant.4, after.3 ∙ c.pass.invariant.5)

pub returns-clause-call : goal.returns-clause-call
returns-clause-call g c =
    let i = c.self.invariant in
    let e = c.enter_idle.ensures in
    idle_calls _ _ _ _ _ _ _ _ _ _ _ i.2 tt e.knew refl (run_forgotten c.self.inside.ids c.forget-answer.new.self c.args.channel c.args.id c.forget-answer.result c.forget-answer.ensures) (λ x met same leaving. (c.forget-answer.new.self, subst (λ t. Forgets t c.args.channel c.args.id c.forget-answer.result c.forget-answer.new.self) (sym same) c.forget-answer.ensures, leaving)) (g.met.D.Disk.lawful _) _ _ c.pass.view_is e.pass

pub returns-clause-real : goal.returns-clause-real
returns-clause-real g c =
    let i = c.self.invariant in
    let e = c.enter_idle.ensures in
    idle_real _ _ _ _ _ _ _ _ _ _ _ i.2 tt e.knew refl (run_forgotten c.self.inside.ids c.forget-answer.new.self c.args.channel c.args.id c.forget-answer.result c.forget-answer.ensures) (λ x met same leaving. (c.forget-answer.new.self, subst (λ t. Forgets t c.args.channel c.args.id c.forget-answer.result c.forget-answer.new.self) (sym same) c.forget-answer.ensures, leaving)) (g.met.D.Disk.lawful _) _ e.pass
