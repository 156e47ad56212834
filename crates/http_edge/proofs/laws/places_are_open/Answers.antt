use Rattle.http_edge.proofs.OpenBodyLaws.{places_are_open}
use Rattle.http_edge.proofs.laws.places_are_open.Goals as goal

pub returns : goal.returns
returns c = places_are_open
