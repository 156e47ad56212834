use Rattle.bridge_laws.proofs.Cause as cause
use Rattle.bridge_laws.proofs.known.known_has_cause.Goals as goal

pub returns-clause-ended : goal.returns-clause-ended
returns-clause-ended g c = cause.known_has_cause c.runs_of_one.ensures _ _ g.met.D.Disk.lawful g.met.E.Disk.lawful

pub returns-clause-cut : goal.returns-clause-cut
returns-clause-cut g c =
    cause.known_has_cause_or_cut c.runs_of_one.ensures _ _ g.met.D.Disk.lawful g.met.E.Disk.lawful g.D.Disk.may_release
