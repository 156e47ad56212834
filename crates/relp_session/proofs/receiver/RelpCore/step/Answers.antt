use Rattle.std.proofs.Common.{◌≡◌, rules, ◌∙◌, sym, ap, subst}
use Rattle.std.specs.Prelude.{◌↔◌}
use Rattle.relp_session.specs.declared.act.RelpAct.{RelpAct}
use Rattle.relp_session.specs.declared.state.State.{State}
use Rattle.relp_session.specs.declared.state.State.TheVariants.{Closed}
use Rattle.relp_session.specs.State.{next}
use Rattle.relp_session.specs.Answer.{IsEnd, act_of}
use Rattle.relp_session.specs.Session.{state_after}
use Rattle.relp_session.proofs.States.{state_then, ends_row}
use Rattle.relp_session.proofs.receiver.RelpCore.step.Goals as goal

pub returns-clause-after : goal.returns-clause-after
returns-clause-after c = λ before e.
    let r = c.request_of-request.result in
    let was : c.self.inside.state ≡ state_after before = search (rules, c.self.view_is, e) in
    c.next_state-self-inside.ensures ∙ ap (λ s. next s r) was ∙ sym (state_then before c.args.frame r c.request_of-request.ensures)

pub returns-clause-ends : goal.returns-clause-ends
returns-clause-ends c =
    let row = ends_row c.self.inside.state c.request_of-request.result c.args.frame in
    let after = subst (λ (s : State). IsEnd (act_of c.self.inside.state c.request_of-request.result c.args.frame) ↔ (s ≡ Closed)) (sym c.next_state-self-inside.ensures) row in
    subst (λ (act : RelpAct). IsEnd act ↔ (c.next_state-self-inside.result ≡ Closed)) (sym c.in_ok-act.ensures.value) after
