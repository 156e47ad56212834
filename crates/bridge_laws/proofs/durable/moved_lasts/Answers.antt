use Rattle.bridge_laws.proofs.Copied.{copy_lasts}
use Rattle.bridge_laws.proofs.durable.moved_lasts.Goals as goal

pub returns : goal.returns
returns g c = copy_lasts _ _ g.D.Disk.may_release g.met.D.Disk.lawful g.met.E.Disk.lawful
