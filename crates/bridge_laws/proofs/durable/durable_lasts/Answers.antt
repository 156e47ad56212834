use Rattle.bridge_laws.proofs.StaysDurable as law
use Rattle.bridge_laws.proofs.durable.durable_lasts.Goals as goal

pub returns-clause-lasts : goal.returns-clause-lasts
returns-clause-lasts g c = law.durable_lasts _ _ g.met.D.Disk.lawful g.met.E.Disk.lawful

pub returns-clause-cut : goal.returns-clause-cut
returns-clause-cut g c = law.kept_lasts _ _ g.D.Disk.may_release g.met.D.Disk.lawful g.met.E.Disk.lawful
