use Rattle.desk_seats.specs.Ran.{ran_one}
use Rattle.spool_turns.proofs.seated.SeatedAccess.known_count.Goals as goal

pub returns : goal.returns
returns g c = (ran_one g.J.Naming.start _ _ _ _ _ c.known_count.ensures.call, λ some. c.known_count.ensures.real)
