use Rattle.std.proofs.Common.{List, ℕ, Some, subst}
use Rattle.serde_json.specs.View.{view}
use Rattle.hec_sender.specs.Replies.{IsValueOf}
use Rattle.hec_sender.proofs.verdict.judge.Goals as goal

pub returns-in-Ok : goal.returns-in-Ok
returns-in-Ok c =
    let value = view c.in-Ok.value in
    (Some value, subst (λ (b : List ℕ). IsValueOf b (Some value)) c.bytes.ensures (c.in-Ok.ensures.ok.0, c.in-Ok.ensures.ok.1), c.verdict_of.ensures)
