use Rattle.std.proofs.Common.{arith}
use Rattle.desk_seats.specs.Ran.{none_real, ran_loaded}
use Rattle.spool_turns.proofs.seated.SeatedAccess.cursor.Goals as goal

pub returns-clause-ran : goal.returns-clause-ran
returns-clause-ran g c =
    let s = c.cursor.ensures.same in
    let l = c.cursor.ensures.loaded in
    (ran_loaded g.J.Naming.start _ _ s.0 s.1 s.2 (omega (arith, s.3)) (omega (arith, l.0, l.1)), none_real _)
