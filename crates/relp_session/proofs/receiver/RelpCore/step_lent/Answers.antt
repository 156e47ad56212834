-- The row of the table for the frame that is lent.
use Rattle.std.proofs.Common.{◌≡◌, rules, ◌∙◌, sym, ap}
use Rattle.relp_frame.specs.declared.frame.Frame.{Frame}
use Rattle.relp_frame.specs.Machine.{frame}
use Rattle.relp_session.specs.State.{next}
use Rattle.relp_session.specs.Answer.{act_of}
use Rattle.relp_session.specs.Session.{state_after}
use Rattle.relp_session.proofs.States.{state_then}
use Rattle.relp_session.proofs.receiver.RelpCore.step_lent.Goals as goal

pub returns-clause-answer : goal.returns-clause-answer
returns-clause-answer c =
    let lent = c.args.lent in
    let f = frame lent.txnr lent.command.now lent.body.now in
    let r = c.request_in-request.result in
    let view : c.self.inside.state ≡ c.args.self.now = search (rules, c.self.view_is) in
    (r, c.request_in-request.ensures lent.txnr, c.act_for_lent-act.ensures ∙ ap (λ s. act_of s r f) view)

pub returns-clause-next : goal.returns-clause-next
returns-clause-next c =
    let r = c.request_in-request.result in
    let view : c.self.inside.state ≡ c.args.self.now = search (rules, c.self.view_is) in
    (r, c.request_in-request.ensures c.args.lent.txnr, c.next_state-self-inside.ensures ∙ ap (λ s. next s r) view)

pub returns-clause-after : goal.returns-clause-after
returns-clause-after c = λ before e.
    let lent = c.args.lent in
    let f : Frame = frame lent.txnr lent.command.now lent.body.now in
    let r = c.request_in-request.result in
    let was : c.self.inside.state ≡ state_after before = search (rules, c.self.view_is, e) in
    c.next_state-self-inside.ensures ∙ ap (λ s. next s r) was ∙ sym (state_then before f r (c.request_in-request.ensures lent.txnr))
