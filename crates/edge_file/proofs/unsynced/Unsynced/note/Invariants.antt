use Rattle.std.proofs.Common.{◌≡◌, ℕ, ◌≤◌, length, take}
use Rattle.std.specs.Prelude.{◌||◌}
use Rattle.edge_file.specs.ByteRange.{is_within, is_covered}
use Rattle.edge_file.proofs.unsynced.Unsynced.note.Given as goal

abbrev pub invariant-loop-range : goal.invariant-loop-range
invariant-loop-range l = record {
  begins : l.whole.from ≤ l.written.from;
  ends : l.written.to ≤ l.whole.to;
  few : length l.kept.items ≤ l.range-index;
  noted : (i : ℕ) → (is_covered l.kept.items i || is_within l.whole i) ≡ (is_within l.written i || is_covered (take l.range-index l.ranges) i);
}
