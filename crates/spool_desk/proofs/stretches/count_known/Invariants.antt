use Rattle.std.proofs.Common.{◌≡◌, ℕ, ◌+◌, ◌≤◌, drop}
use Rattle.known_numbers.specs.Numbers.{AreApart, count_of}
use Rattle.spool_desk.proofs.stretches.count_known.Given as goal

-- those that are counted are below the end of the last stretch
abbrev pub invariant-loop-stretch : goal.invariant-loop-stretch
invariant-loop-stretch l = record {
  counted : l.count + count_of (drop l.stretch-index l.stretches) ≡ count_of l.stretches;
  apart : (e : ℕ) × (l.count ≤ e) × AreApart e (drop l.stretch-index l.stretches);
}
