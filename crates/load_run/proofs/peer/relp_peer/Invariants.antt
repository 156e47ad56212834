use Rattle.std.proofs.Common.{◌≡◌, ◌+◌, ◌-◌, ◌++◌}
use Rattle.load_run.specs.Peer.{relp_replies}
use Rattle.load_run.proofs.peer.relp_peer.Given as goal

abbrev pub invariant-loop-txnr : goal.invariant-loop-txnr
invariant-loop-txnr l = l.out.items ++ relp_replies l.txnr (l.count + 2 - l.txnr) ≡ relp_replies 1 (l.count + 1)
