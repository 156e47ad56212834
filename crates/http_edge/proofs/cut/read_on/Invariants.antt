use Rattle.std.proofs.Common.{◌≡◌, ◌-◌, ◌<◌, ◌≤◌, ◌++◌, take, length}
use Rattle.std.specs.Vec.{vec_capacity}
use Rattle.http_edge.specs.Parts.{IsPart}
use Rattle.http_edge.proofs.cut.read_on.Given as goal

abbrev pub invariant-parts : goal.invariant-parts
invariant-parts l =
    (l.from ≤ length l.piece) × (l.unread.items ≡ l.initial.unread.items ++ take l.from l.piece)
    × (length l.unread.items < 16384) × (16384 ≤ vec_capacity l.unread) × IsPart l.now l.unread.items

abbrev pub decreases-parts : goal.decreases-parts
decreases-parts l = length l.piece - l.from
