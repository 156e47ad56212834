use Rattle.bridge_laws.proofs.LeaveLasts as leave
use Rattle.bridge_laws.proofs.durable.leave_lasts.Goals as goal

pub returns-clause-durable : goal.returns-clause-durable
returns-clause-durable g c = leave.durable_is_kept g.D.Disk.moment

pub returns-clause-lasts : goal.returns-clause-lasts
returns-clause-lasts g c = leave.leave_lasts g.D.Disk.moment g.D.Disk.may_release

pub returns-clause-releases : goal.returns-clause-releases
returns-clause-releases g c = leave.leave_releases g.D.Disk.moment g.D.Disk.may_release
