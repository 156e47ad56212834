use Rattle.http_edge.proofs.OnceLaws.{requests_once}
use Rattle.http_edge.proofs.laws.requests_once.Goals as goal

pub returns : goal.returns
returns c = requests_once
