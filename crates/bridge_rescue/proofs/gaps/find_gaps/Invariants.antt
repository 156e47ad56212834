use Rattle.std.proofs.Common.{◌≡◌, ◌++◌, ◌≤◌, drop, length}
use Rattle.std.specs.Prelude.{vec_capacity}
use Rattle.bridge_rescue.specs.Gaps.{gaps_from, gaps_in, spans_of}
use Rattle.bridge_rescue.proofs.gaps.find_gaps.Given as goal

abbrev pub invariant-loop-found : goal.invariant-loop-found
invariant-loop-found l = record {
  found : l.gaps.items ++ gaps_from l.end (spans_of (drop l.found-index l.founds)) ≡ gaps_in (spans_of l.founds);
  few : length l.gaps.items ≤ l.found-index;
  room : length l.founds ≤ vec_capacity l.gaps;
}
