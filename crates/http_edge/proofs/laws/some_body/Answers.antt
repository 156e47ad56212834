use Rattle.http_edge.proofs.BodyVerdictLaws.{some_body}
use Rattle.http_edge.proofs.laws.some_body.Goals as goal

pub returns : goal.returns
returns c = some_body
