use Rattle.std.proofs.Common.{◌≡◌, ℕ, ◌<◌, true, false, slice_index}
use Rattle.edge_memory.specs.Held.{is_written}
use Rattle.edge_memory.proofs.crash.fill.Given as goal

abbrev pub invariant-loop-place : goal.invariant-loop-place
invariant-loop-place l = record {
  inside : (i : ℕ) → i < l.place → is_written l.ranges i ≡ true → slice_index l.bytes i ≡ l.byte;
  outside : (i : ℕ) → is_written l.ranges i ≡ false → slice_index l.bytes i ≡ slice_index l.initial.bytes i;
}
