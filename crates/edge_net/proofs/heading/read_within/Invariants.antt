use Rattle.std.proofs.Common.{take}
use Rattle.std.specs.Io.KnownBytes.{Consumes}
use Rattle.proxy_head.specs.Head.{IsBeginning}
use Rattle.edge_net.proofs.heading.read_within.Given as goal

-- the bytes so far were read from the stream, and they are too few to tell
abbrev pub invariant-loop-count : goal.invariant-loop-count
invariant-loop-count g l = record {
  taken : Consumes (g.S.Read.remaining l.fn.stream) (g.S.Read.remaining l.stream) (take l.count l.bytes);
  few : IsBeginning (take l.count l.bytes);
}
