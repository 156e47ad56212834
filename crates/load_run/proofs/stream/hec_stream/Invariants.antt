use Rattle.std.proofs.Common.{◌≡◌, ◌-◌, ◌++◌}
use Rattle.load_run.specs.Events.{load_texts}
use Rattle.load_run.specs.Stream.{hec_stream}
use Rattle.load_run.proofs.stream.hec_stream.Given as goal

abbrev pub invariant-loop-place : goal.invariant-loop-place
invariant-loop-place l = l.out.items ++ hec_stream (load_texts l.place l.x (l.count - l.place)) ≡ hec_stream (load_texts 0 l.fn.number l.count)
