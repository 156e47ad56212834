use Rattle.std.proofs.Common.{◌≡◌, ◌-◌, ◌≤◌, length, reverse, slice_range}
use Rattle.httparse.specs.Grammar.{skip_ows, trim_ows}
use Rattle.http_edge.proofs.text.trim.Given as goal

abbrev pub invariant-loop-from : goal.invariant-loop-from
invariant-loop-from l = (l.from ≤ l.to) × (skip_ows l.text ≡ skip_ows (slice_range l.text l.from l.to))

abbrev pub decreases-loop-from : goal.decreases-loop-from
decreases-loop-from l = l.to - l.from

abbrev pub invariant-loop-to : goal.invariant-loop-to
invariant-loop-to l =
    (l.from ≤ l.to) × (l.to ≤ length l.text)
    × (trim_ows l.text ≡ reverse (skip_ows (reverse (slice_range l.text l.from l.to))))

abbrev pub decreases-loop-to : goal.decreases-loop-to
decreases-loop-to l = l.to - l.from
