use Rattle.std.proofs.Common.{◌≡◌, length, ap, refl, arith}
use Rattle.std.proofs.lemmas.List.{length-map}
use Rattle.desk_access.proofs.Dividing.{callers_few}
use Rattle.serve_workers.proofs.Placing.{told_alike}
use Rattle.serve_workers.proofs.hired.hire.Goals as goal

pub invariant_of-result : goal.invariant_of-result
invariant_of-result g c =
    let placed = c.placed-workers.ensures in
    let workers = c.placed-workers.result in
    let posts = c.args.posts in
    let same : workers.len ≡ posts.len =
    omega (arith, ap length placed.doors, length-map workers.items (λ w. w.door), length-map posts.items (λ p. p.door), workers.ok.0, posts.ok.0) in
    let room = c.in-Ok.ensures.crew in (
      (λ k d lt. let ready = placed.ready k d lt in (ready.0, ready.1)),
      placed.says,
      (room.0.0, room.0.1, omega (arith, room.0.2, same, c.len.ensures)),
      (room.1.0, room.1.1, omega (arith, room.1.2, same, c.len.ensures)),
      (room.2.0, room.2.1, omega (arith, room.2.2, same, c.len.ensures)),
    )

pub returns-clause-doors : goal.returns-clause-doors
returns-clause-doors g c = told_alike (λ w. w.door) (λ p. p.door) g.P.Door.told c.placed-workers.result.items c.args.posts.items c.placed-workers.ensures.doors

pub room_for-requires : goal.room_for-requires
room_for-requires g c = omega (arith, c.requires.many.1, c.args.posts.ok.0, callers_few g.S.Seat.of_run.division)

pub placed-workers-requires-clause-room : goal.placed-workers-requires-clause-room
placed-workers-requires-clause-room g c = let room = c.in-Ok.ensures.workers in (room.0, room.1, omega (arith, room.2, c.len.ensures))

pub placed-workers-requires-clause-many : goal.placed-workers-requires-clause-many
placed-workers-requires-clause-many g c = c.requires.many

pub placed-workers-requires-clause-new : goal.placed-workers-requires-clause-new
placed-workers-requires-clause-new g c = c.requires.new

pub placed-workers-requires-clause-says : goal.placed-workers-requires-clause-says
placed-workers-requires-clause-says g c = c.requires.says

pub returns-clause-rules : goal.returns-clause-rules
returns-clause-rules g c = c.placed-workers.ensures.rules

pub returns-clause-passes : goal.returns-clause-passes
returns-clause-passes g c = c.placed-workers.ensures.passes

pub returns-clause-err : goal.returns-clause-err
returns-clause-err g c = tt

pub returns-in_default : goal.returns-in_default
returns-in_default g c = record { rules = tt; doors = tt; passes = tt; err = (refl, refl) }
