use Rattle.std.proofs.Common.{sym, subst}
use Rattle.hec_session.specs.Acts.{AreWithinLimits}
use Rattle.hec_session.proofs.EventLaws.{events_within}
use Rattle.hec_session.proofs.body.events_of.Goals as goal

pub returns-clause-limits : goal.returns-clause-limits
returns-clause-limits c = subst AreWithinLimits (sym c.in_ok-with_origin.ensures) (events_within c.args.form _ c.in_ok-texts.ensures.limits)
