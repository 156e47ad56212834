use Rattle.std.proofs.Common.{◌≡◌, ◌-◌, ◌++◌}
use Rattle.load_run.specs.Events.{load_texts}
use Rattle.load_run.specs.Stream.{lumber_stream}
use Rattle.load_run.proofs.stream.lumber_stream.Given as goal

abbrev pub invariant-loop-place : goal.invariant-loop-place
invariant-loop-place l = l.out.items ++ lumber_stream l.place (load_texts l.place l.x (l.count - l.place)) ≡ lumber_stream 0 (load_texts 0 l.fn.number l.count)
