use Rattle.spool_desk.proofs.Fits.{front_alone}
use Rattle.spool_desk.proofs.alone.AloneAccess.take_front.Goals as goal

pub returns-clause-alone : goal.returns-clause-alone
returns-clause-alone g c = front_alone _ _ _ _ _ c.fitting-count.ensures.fits c.take-answer.ensures.before
