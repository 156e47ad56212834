use Rattle.std.proofs.Common.{◌≡◌, ◌-◌, ◌≤◌}
use Rattle.relp_sender.specs.Sender.{wrote}
use Rattle.relp_sender.proofs.sender.RelpSender.send.Given as goal

abbrev pub invariant-loop-written : goal.invariant-loop-written
invariant-loop-written l = record {
  in_range : l.written ≤ l.count;
  is : l.self ≡ wrote l.written l.fn.self;
}

abbrev pub decreases-loop-written : goal.decreases-loop-written
decreases-loop-written l = l.count - l.written
