use Rattle.std.proofs.Common.{ℕ, List, IfOk, subst}
use Rattle.hec_session.specs.Acts.{IsAct}
use Rattle.hec_session.proofs.receiver.HecCore.act.Goals as goal

pub returns-clause-act : goal.returns-clause-act
returns-clause-act c =
    let head = c.args.head.now in
    let At : List ℕ → List ℕ → Type 0 = λ m t. IfOk c.judge.result (IsAct c.args.self.now (record { method = m; target = t; minor = head.minor; fields = head.fields; body = c.args.body.now })) in
    subst (λ (m : List ℕ). At m head.target) c.bytes.ensures (subst (λ (t : List ℕ). At c.bytes.result.now t) c.bytes-2.ensures c.judge.ensures.act)
