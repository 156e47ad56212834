use Rattle.std.proofs.Common.{◌≡◌, map, take, vec_len}
use Rattle.std.specs.Vec.{vec_capacity}
use Rattle.serve_run.specs.Running.{HasMet}
use Rattle.serve_run.proofs.meeting.meet_all.Given as goal

abbrev pub invariant-loop-i : goal.invariant-loop-i
invariant-loop-i g l = record {
  met : HasMet (map g.S.Seat.pass_knows (take l.i l.fn.others.items)) (g.S.Seat.knows l.fn.seat) (g.S.Seat.knows l.seat);
  items : l.others.items ≡ l.fn.others.items;
  len : vec_len l.others ≡ vec_len l.fn.others;
  capacity : vec_capacity l.others ≡ vec_capacity l.fn.others;
}
