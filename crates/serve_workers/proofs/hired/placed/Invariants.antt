use Rattle.std.proofs.Common.{◌≡◌, ◌≤◌, length, map, vec_len}
use Rattle.std.specs.Prelude.{All}
use Rattle.std.specs.Vec.{vec_capacity}
use Rattle.serve_workers.specs.Crews.{IsReady}
use Rattle.serve_workers.specs.Answering.{MayAnswer}
use Rattle.serve_workers.proofs.hired.placed.Given as goal

abbrev pub invariant-loop-post : goal.invariant-loop-post
invariant-loop-post g l = record {
  doors : map (λ w. w.door) l.workers.items ≡ map (λ y. y.0.door) l.yielded;
  rules : map (λ w. w.rules) l.workers.items ≡ map (λ y. y.0.rules) l.yielded;
  passes : map (λ w. g.S.Seat.knows w.seat) l.workers.items ≡ map (λ y. g.S.Seat.pass_knows y.1) l.yielded;
  ready : All (λ w. IsReady g.S.Seat.of_run w.number (g.S.Seat.knows w.seat)) l.workers.items;
  says : All (λ w. MayAnswer g.S.Seat.is_real g.S.Seat.start g.S.Seat.of_run w.number (g.P.Door.permits w.door) w.rules) l.workers.items;
  many : vec_len l.workers ≡ length l.yielded;
  number : l.number ≡ length l.yielded;
  room : vec_len l.fn.posts ≤ vec_capacity l.workers;
}
