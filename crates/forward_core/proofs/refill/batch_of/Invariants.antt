use Rattle.std.proofs.Common.{◌≡◌}
use Rattle.forward_core.specs.Calls.{within, entries_of, numbers_of, after_last}
use Rattle.forward_core.proofs.refill.batch_of.Given as goal

abbrev pub invariant-loop-one : goal.invariant-loop-one
invariant-loop-one l = record {
  entries : l.batch.entries.items ≡ entries_of (within l.next l.end l.yielded);
  numbers : l.batch.numbers.items ≡ numbers_of (within l.next l.end l.yielded);
  next_is : l.batch.next ≡ after_last l.next (within l.next l.end l.yielded);
}
