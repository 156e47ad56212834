use Rattle.std.proofs.Common.{◌≡◌}
use Rattle.serve_forwarder.proofs.beside.pause_for.Given as goal

abbrev pub invariant-waits : goal.invariant-waits
invariant-waits g l = g.N.Net.told l.net ≡ g.N.Net.told l.fn.net
