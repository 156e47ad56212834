use Rattle.http_edge.proofs.OpenBodyLaws.{open_bodies}
use Rattle.http_edge.proofs.laws.open_bodies.Goals as goal

pub returns : goal.returns
returns c = open_bodies
