use Rattle.http_edge.proofs.OpenBodyLaws.{whole_bodies}
use Rattle.http_edge.proofs.laws.whole_bodies.Goals as goal

pub returns : goal.returns
returns c = whole_bodies
