use Rattle.std.proofs.Common.{ℕ, List, IfOk, subst}
use Rattle.hec_session.specs.Acts.{IsAct}
use Rattle.hec_session.proofs.receiver.HecCore.step.Goals as goal

pub returns-clause-act : goal.returns-clause-act
returns-clause-act c =
    let r = c.args.request.now in
    let At : List ℕ → List ℕ → List ℕ → Type 0 = λ m t b. IfOk c.judge.result (IsAct c.args.self.now (record { method = m; target = t; minor = r.minor; fields = r.fields; body = b })) in
    subst (λ (m : List ℕ). At m r.target r.body) c.bytes.ensures
    (subst (λ (t : List ℕ). At c.bytes.result.now t r.body) c.bytes-2.ensures (subst (λ (b : List ℕ). At c.bytes.result.now c.bytes-2.result.now b) c.bytes-3.ensures c.judge.ensures.act))
