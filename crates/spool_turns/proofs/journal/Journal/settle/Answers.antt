use Rattle.std.proofs.Common.{refl, sym, ◌∙◌, subst}
use Rattle.hec_ids.specs.Rows.{Settles}
use Rattle.desk_access.specs.Legal.{IsStored}
use Rattle.spool_turns.proofs.OtherIds.{run_settled}
use Rattle.spool_turns.proofs.Kept.{idle_kept, idle_pass, idle_calls, idle_real}
use Rattle.spool_turns.proofs.journal.Journal.settle.Goals as goal

pub invariant_of-self : goal.invariant_of-self
invariant_of-self g c =
    let i = c.self.invariant in
    let e = c.enter_idle.ensures in
    (e.tables.0 ∙ i.0, i.1, idle_kept _ _ _ _ _ _ _ _ _ _ _ i.2 (subst (λ k. IsStored k.own c.args.id) (sym c.pass.view_is) c.requires.taken) e.knew refl (run_settled c.self.inside.ids c.settle-answer.new.self c.args.channel c.args.id c.settle-answer.result c.settle-answer.ensures) (λ x met same leaving. (c.settle-answer.new.self, subst (λ t. Settles t c.args.channel c.args.id c.settle-answer.result c.settle-answer.new.self) (sym same) c.settle-answer.ensures, leaving)) (g.met.D.Disk.lawful _) _ e.locked, i.3)

pub invariant_of-pass : goal.invariant_of-pass
invariant_of-pass g c =
    let i = c.self.invariant in
    let e = c.enter_idle.ensures in
    let after = idle_pass _ _ _ _ _ _ _ _ _ _ _ i.2 (subst (λ k. IsStored k.own c.args.id) (sym c.pass.view_is) c.requires.taken) e.knew refl (run_settled c.self.inside.ids c.settle-answer.new.self c.args.channel c.args.id c.settle-answer.result c.settle-answer.ensures) (λ x met same leaving. (c.settle-answer.new.self, subst (λ t. Settles t c.args.channel c.args.id c.settle-answer.result c.settle-answer.new.self) (sym same) c.settle-answer.ensures, leaving)) (g.met.D.Disk.lawful _) _ e.pass in
    (e.tables.1 ∙ c.pass.invariant.0, after.0, after.1, after.2 ∙ c.pass.invariant.3, c.pass.invariant.4, after.3 ∙ c.pass.invariant.5)

pub returns-clause-call : goal.returns-clause-call
returns-clause-call g c =
    let i = c.self.invariant in
    let e = c.enter_idle.ensures in
    idle_calls _ _ _ _ _ _ _ _ _ _ _ i.2 (subst (λ k. IsStored k.own c.args.id) (sym c.pass.view_is) c.requires.taken) e.knew refl (run_settled c.self.inside.ids c.settle-answer.new.self c.args.channel c.args.id c.settle-answer.result c.settle-answer.ensures) (λ x met same leaving. (c.settle-answer.new.self, subst (λ t. Settles t c.args.channel c.args.id c.settle-answer.result c.settle-answer.new.self) (sym same) c.settle-answer.ensures, leaving)) (g.met.D.Disk.lawful _) _ _ c.pass.view_is e.pass

pub returns-clause-real : goal.returns-clause-real
returns-clause-real g c =
    let i = c.self.invariant in
    let e = c.enter_idle.ensures in
    idle_real _ _ _ _ _ _ _ _ _ _ _ i.2 (subst (λ k. IsStored k.own c.args.id) (sym c.pass.view_is) c.requires.taken) e.knew refl (run_settled c.self.inside.ids c.settle-answer.new.self c.args.channel c.args.id c.settle-answer.result c.settle-answer.ensures) (λ x met same leaving. (c.settle-answer.new.self, subst (λ t. Settles t c.args.channel c.args.id c.settle-answer.result c.settle-answer.new.self) (sym same) c.settle-answer.ensures, leaving)) (g.met.D.Disk.lawful _) _ e.pass
