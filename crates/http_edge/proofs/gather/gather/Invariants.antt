use Rattle.std.proofs.Common.{◌≡◌, ◌-◌, ◌≤◌, length}
use Rattle.std.specs.Vec.{vec_capacity}
use Rattle.http_edge.proofs.GatherLaws.{GatherAt}
use Rattle.http_edge.proofs.gather.gather.Given as goal

abbrev pub invariant-turns : goal.invariant-turns
invariant-turns l =
    GatherAt l.fn.stage l.fn.held l.piece l.initial.bytes.items l.now l.bytes.items l.from
    × (vec_capacity l.initial.bytes ≤ vec_capacity l.bytes) × (l.before ≡ length l.initial.bytes.items)

abbrev pub decreases-turns : goal.decreases-turns
decreases-turns l = length l.piece - l.from
