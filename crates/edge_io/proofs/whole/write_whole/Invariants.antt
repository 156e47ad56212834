use Rattle.std.proofs.Common.{◌≡◌, length, ◌-◌, ◌≤◌, take}
use Rattle.std.specs.Io.KnownBytes.{Appends}
use Rattle.edge_io.proofs.whole.write_whole.Given as goal

abbrev pub invariant-loop-sent : goal.invariant-loop-sent
invariant-loop-sent g l = record {
  in_range : l.sent ≤ length l.piece;
  so_far : Appends (g.K.Sink.taken l.fn.sink) (g.K.Sink.taken l.sink) (take l.sent l.piece);
  quiet : g.K.Sink.write_faults l.sink ≡ g.K.Sink.write_faults l.fn.sink;
  same : g.K.Object.same l.fn.sink l.sink;
  apart : g.K.Sink.write_apart l.fn.sink l.sink;
}

abbrev pub decreases-loop-sent : goal.decreases-loop-sent
decreases-loop-sent g l = length l.piece - l.sent
