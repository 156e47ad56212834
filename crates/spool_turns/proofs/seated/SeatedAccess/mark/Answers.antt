use Rattle.desk_seats.specs.Ran.{ran_one}
use Rattle.spool_turns.proofs.seated.SeatedAccess.mark.Goals as goal

pub returns : goal.returns
returns g c = (ran_one g.J.Naming.start _ _ _ _ _ c.mark.ensures.call, λ some. c.mark.ensures.real)
