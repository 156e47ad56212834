use Rattle.desk_seats.specs.Ran.{ran_one}
use Rattle.spool_turns.proofs.seated.SeatedAccess.pending.Goals as goal

pub returns-clause-ran : goal.returns-clause-ran
returns-clause-ran g c = (ran_one g.J.Naming.start _ _ _ _ _ c.pending.ensures.call, λ some. c.pending.ensures.real)
