use Rattle.std.proofs.Common.{◌≡◌, ◌≤◌, drop, length}
use Rattle.conn_serve.proofs.relp.run.drop_entries.Given as goal

abbrev pub invariant-loop-left : goal.invariant-loop-left
invariant-loop-left l = record {
  inside : l.left ≤ length l.entries.items;
  rest : drop l.left l.entries.items ≡ drop l.count l.fn.entries.items;
}

abbrev pub decreases-loop-left : goal.decreases-loop-left
decreases-loop-left l = l.left
