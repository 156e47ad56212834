use Rattle.std.proofs.Common.{arith}
use Rattle.spool_turns.proofs.laws.ids_of_runs_differ.Goals as goal

pub returns : goal.returns
returns c = λ run other id p q. omega (arith, p.0, p.1, q.0, q.1)
