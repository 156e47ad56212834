use Rattle.std.proofs.Common.{◌∙◌, ◌<◌, ◌++◌, ℕ, List, ap, subst}
use Rattle.load_run.specs.Peer.{runs_of}
use Rattle.load_run.proofs.Texts.{successes_next}
use Rattle.load_run.proofs.peer.hec_peer.Goals as goal

pub loop-request-preserved : goal.loop-request-preserved
loop-request-preserved c =
    let out = c.loop-request.out.items in
    successes_next c.loop-request.request (runs_of c.args.count) out c.extend_from_slice.new.self.items _ (subst (λ (n : ℕ). c.loop-request.request < n) c.runs_of-request-end.ensures c.loop-request-test.true)
    (c.in_ok-extend_from_slice.ensures.items ∙ ap (λ (l : List ℕ). out ++ l) (c.deref.ensures.value ∙ c.in_ok-text.ensures)) c.loop-request.invariant
