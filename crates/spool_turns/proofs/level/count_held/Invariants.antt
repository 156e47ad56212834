use Rattle.std.proofs.Common.{◌≡◌, ◌+◌, ◌≤◌, drop}
use Rattle.spool_turns.specs.Levels.{count_held}
use Rattle.spool_turns.proofs.level.count_held.Given as goal

abbrev pub invariant-loop-slot : goal.invariant-loop-slot
invariant-loop-slot l = record {
  counted : l.held + count_held l.cursor (drop l.slot-index l.slots) ≡ count_held l.cursor l.slots;
  few : l.held ≤ l.slot-index;
}
