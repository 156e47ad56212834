use Rattle.std.proofs.Common.{◌≡◌, vec_len}
use Rattle.conn_serve.proofs.staged.Staged.stored.Given as goal

abbrev pub invariant-loop-entry : goal.invariant-loop-entry
invariant-loop-entry l = l.self.last ≡ l.fn.self.last

abbrev pub decreases-loop-entry : goal.decreases-loop-entry
decreases-loop-entry l = vec_len l.self.entries
