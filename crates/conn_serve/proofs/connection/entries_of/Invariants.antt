use Rattle.std.proofs.Common.{◌≡◌}
use Rattle.conn_serve.specs.Hec.{entries_of}
use Rattle.conn_serve.proofs.connection.entries_of.Given as goal

abbrev pub invariant-loop-event : goal.invariant-loop-event
invariant-loop-event l = l.entries.items ≡ entries_of l.connection.number l.connection.taken l.unit l.yielded
