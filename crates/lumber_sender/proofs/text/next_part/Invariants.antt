use Rattle.std.proofs.Common.{◌≡◌, ℕ, ◌+◌, ◌++◌, length, ◌-◌, ◌<◌, ◌≤◌}
use Rattle.lumber_sender.specs.Windows.{part_text}
use Rattle.lumber_sender.proofs.text.next_part.Given as goal

abbrev pub invariant-loop-upto : goal.invariant-loop-upto
invariant-loop-upto l = record {
  some : l.from < l.upto;
  within : l.upto ≤ length l.batch;
  bytes : 0 < length l.out.items;
  short : (k : ℕ) → l.from < k → k < l.upto → length (part_text l.batch k) < length (part_text l.batch l.from) + 65536;
  part : part_text l.batch l.upto ≡ part_text l.batch l.from ++ l.out.items;
}

abbrev pub decreases-loop-upto : goal.decreases-loop-upto
decreases-loop-upto l = length l.batch - l.upto
