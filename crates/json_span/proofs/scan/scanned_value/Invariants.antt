use Rattle.std.proofs.Common.{◌-◌, length}
use Rattle.json_span.proofs.ScanLaws.{Scan}
use Rattle.json_span.proofs.scan.scanned_value.Given as goal

abbrev pub invariant-loop-i : goal.invariant-loop-i
invariant-loop-i l = Scan l.fn.levels l.bytes l.start l.i l.reading l.end

abbrev pub decreases-loop-i : goal.decreases-loop-i
decreases-loop-i l = length l.bytes - l.i
