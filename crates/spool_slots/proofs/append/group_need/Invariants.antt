use Rattle.std.proofs.Common.{◌≡◌, ◌+◌, ◌*◌, ◌≤◌, length, take}
use Rattle.spool_state.specs.Segment.{entries_text}
use Rattle.spool_slots.proofs.append.group_need.Given as goal

abbrev pub invariant-loop-entry : goal.invariant-loop-entry
invariant-loop-entry l = record {
  so_far : l.need ≡ 9 + length (entries_text (take l.entry-index l.entries));
  small : l.need ≤ 9 + 131101 * l.entry-index;
}
