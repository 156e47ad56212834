use Rattle.bridge_laws.proofs.ServeEnds.{serve_ends_well}
use Rattle.bridge_laws.proofs.laws.serve_ends_well.Goals as goal

pub returns : goal.returns
returns g c = λ disk disk' input input' output output' net net' doors. serve_ends_well _
