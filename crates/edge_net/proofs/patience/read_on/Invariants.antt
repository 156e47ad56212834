use Rattle.std.specs.Io.KnownBytes.{Keeps}
use Rattle.edge_net.proofs.patience.read_on.Given as goal

-- reads that a signal interrupted took nothing
abbrev pub invariant-tries : goal.invariant-tries
invariant-tries g l = Keeps (g.S.Read.remaining l.fn.stream) (g.S.Read.remaining l.stream)
