use Rattle.std.proofs.Common.{◌≡◌, length, take, ◌-◌, ◌<◌, ◌≤◌}
use Rattle.hec_sender.specs.Texts.{objects_text}
use Rattle.hec_sender.proofs.Fitting.{Fits}
use Rattle.hec_sender.proofs.request.next_body.Given as goal

abbrev pub invariant-loop-size : goal.invariant-loop-size
invariant-loop-size l = record {
  some : 0 < l.size;
  within : l.size ≤ length l.run;
  objects : l.objects.items ≡ objects_text (take l.size l.run);
  fits : Fits l.size l.objects.items;
}

abbrev pub decreases-loop-size : goal.decreases-loop-size
decreases-loop-size l = length l.run - l.size
