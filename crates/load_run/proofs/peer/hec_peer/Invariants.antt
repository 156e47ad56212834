use Rattle.std.proofs.Common.{◌≡◌, ◌-◌, ◌++◌}
use Rattle.load_run.specs.Peer.{runs_of, successes}
use Rattle.load_run.proofs.peer.hec_peer.Given as goal

abbrev pub invariant-loop-request : goal.invariant-loop-request
invariant-loop-request l = l.out.items ++ successes (runs_of l.count - l.request) ≡ successes (runs_of l.count)
