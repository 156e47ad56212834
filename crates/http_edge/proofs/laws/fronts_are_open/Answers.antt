use Rattle.http_edge.proofs.OpenBodyLaws.{fronts_are_open}
use Rattle.http_edge.proofs.laws.fronts_are_open.Goals as goal

pub returns : goal.returns
returns c = fronts_are_open
