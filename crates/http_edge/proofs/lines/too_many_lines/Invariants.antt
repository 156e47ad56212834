use Rattle.std.specs.Prelude.{◌≡◌, ◌+◌, ◌≤◌, take}
use Rattle.http_edge.specs.LineCount.{count_lines}
use Rattle.http_edge.proofs.lines.too_many_lines.Given as goal

abbrev pub invariant-loop-i : goal.invariant-loop-i
invariant-loop-i l = (l.now ≡ count_lines l.fn.from (take l.i l.buf)) × (l.now.ended ≤ l.i + 1)
