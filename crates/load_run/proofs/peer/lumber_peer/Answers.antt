use Rattle.std.proofs.Common.{◌≡◌, ◌∙◌, ◌-◌, ◌*◌, ◌<◌, ◌++◌, ℕ, List, ap, subst, arith}
use Rattle.std.specs.Prelude.{min}
use Rattle.lumber_frame.specs.Spelling.{ack_text}
use Rattle.load_run.specs.Peer.{runs_of}
use Rattle.load_run.proofs.Texts.{acks_next}
use Rattle.load_run.proofs.peer.lumber_peer.Goals as goal

pub loop-window-preserved : goal.loop-window-preserved
loop-window-preserved c =
    let out = c.loop-window.out.items in
    let least : c.min.result ≡ min 128 (c.args.count - c.loop-window.window * 128) = omega (arith, c.min.ensures) in
    acks_next c.loop-window.window (runs_of c.args.count) c.args.count out c.extend_from_slice.new.self.items _ (subst (λ (n : ℕ). c.loop-window.window < n) c.runs_of-window-end.ensures c.loop-window-test.true)
    (c.in_ok-extend_from_slice.ensures.items ∙ ap (λ (l : List ℕ). out ++ l) (c.ack_frame.ensures ∙ ap ack_text least)) c.loop-window.invariant
