use Rattle.std.proofs.Common.{◌≡◌, ◌-◌, ◌≤◌, ◌++◌, List, length}
use Rattle.std.specs.Vec.{vec_capacity}
use Rattle.http_edge.specs.declared.waiting.Waiting.{Waiting}
use Rattle.http_edge.proofs.ScanLaws.{ScanAt}
use Rattle.http_edge.proofs.scan.scan_all.Given as goal

abbrev pub invariant-requests : goal.invariant-requests
invariant-requests l =
    ((queue : List Waiting) × (l.queue.items ≡ l.initial.queue.items ++ queue) × ScanAt l.buf l.initial.bytes.items l.bytes.items queue l.heads l.from)
    × (vec_capacity l.initial.bytes ≤ vec_capacity l.bytes)

abbrev pub decreases-requests : goal.decreases-requests
decreases-requests l = length l.buf - l.from
