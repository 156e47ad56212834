use Rattle.std.proofs.Common.{ℕ, ◌+◌, List}
use Rattle.serve_workers.proofs.Following.{Works}
use Rattle.serve_workers.proofs.worker.serve_all.Given as goal

abbrev pub invariant-loop-talk : goal.invariant-loop-talk
invariant-loop-talk g l = record {
  works : Works g.S.Seat.start g.S.Seat.of_run l.fn.rules l.talk (g.P.Door.told l.fn.door) (g.P.Door.told l.door) (g.S.Seat.knows l.fn.seat) (g.S.Seat.knows l.seat);
  stays : (k : ℕ) (read text : List ℕ) → g.P.Door.permits l.fn.door (l.talk + k) read text → g.P.Door.permits l.door k read text;
}
