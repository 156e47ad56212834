use Rattle.std.proofs.Common.{◌≡◌, ◌-◌, ◌*◌, ◌++◌}
use Rattle.load_run.specs.Peer.{runs_of, window_acks}
use Rattle.load_run.proofs.peer.lumber_peer.Given as goal

abbrev pub invariant-loop-window : goal.invariant-loop-window
invariant-loop-window l = l.out.items ++ window_acks (runs_of l.count - l.window) (l.count - l.window * 128) ≡ window_acks (runs_of l.count) l.count
