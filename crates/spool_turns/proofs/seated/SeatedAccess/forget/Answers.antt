use Rattle.desk_seats.specs.Ran.{ran_one}
use Rattle.spool_turns.proofs.seated.SeatedAccess.forget.Goals as goal

pub returns : goal.returns
returns g c = (ran_one g.J.Naming.start _ _ _ _ _ c.forget.ensures.call, λ some. c.forget.ensures.real)
