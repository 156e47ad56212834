use Rattle.std.proofs.Common.{◌-◌, length}
use Rattle.http_edge.proofs.PastLaws.{PassAt}
use Rattle.http_edge.proofs.gather.pass.Given as goal

abbrev pub invariant-turns : goal.invariant-turns
invariant-turns l = PassAt l.fn.stage l.fn.held l.piece l.now l.count l.from

abbrev pub decreases-turns : goal.decreases-turns
decreases-turns l = length l.piece - l.from
