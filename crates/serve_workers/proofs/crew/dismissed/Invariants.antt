use Rattle.std.proofs.Common.{◌≡◌, ◌+◌, ◌≤◌, length, map, vec_len}
use Rattle.std.specs.Vec.{vec_capacity}
use Rattle.serve_workers.proofs.crew.dismissed.Given as goal

abbrev pub invariant-loop-worker : goal.invariant-loop-worker
invariant-loop-worker g l = record {
  doors : l.doors.items ≡ map (λ w. w.door) l.yielded;
  passes : map g.S.Seat.pass_knows l.passes.items ≡ map (λ w. g.S.Seat.knows w.seat) l.yielded;
  reports : l.reports.items ≡ map (λ w. w.report) l.yielded;
  doors_len : vec_len l.doors ≡ length l.yielded;
  passes_len : vec_len l.passes ≡ length l.yielded;
  reports_len : vec_len l.reports ≡ length l.yielded;
  doors_room : vec_len l.fn.workers ≤ vec_capacity l.doors;
  passes_room : vec_len l.fn.workers + 1 ≤ vec_capacity l.passes;
  reports_room : vec_len l.fn.workers ≤ vec_capacity l.reports;
}
