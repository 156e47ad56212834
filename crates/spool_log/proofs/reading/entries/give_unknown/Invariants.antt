use Rattle.std.proofs.Common.{◌≡◌, ℕ, ◌+◌, ◌≤◌, ◌++◌, All, length}
use Rattle.event_form.specs.Entry.{IsEntry}
use Rattle.spool_state.specs.Left.{numbered, unknown}
use Rattle.spool_answers.specs.Pend.{given_entries, AreNumbered}
use Rattle.spool_log.proofs.reading.entries.give_unknown.Given as goal

abbrev pub invariant-loop-entry : goal.invariant-loop-entry
invariant-loop-entry l = record {
  counted : l.number ≡ l.fn.first + length l.yielded;
  few : length l.given.items ≤ length l.fn.given.items + length l.yielded;
  rising : (from : ℕ) → from ≤ l.fn.first → All IsEntry l.fn.entries.items → AreNumbered from l.fn.first l.fn.given.items → AreNumbered from l.number l.given.items;
  given : given_entries l.given.items ≡ given_entries l.fn.given.items ++ unknown l.numbers (numbered l.fn.first l.yielded);
}
