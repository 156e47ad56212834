use Rattle.hec_body.proofs.Queries.{one_query}
use Rattle.hec_body.proofs.laws.one_query.Goals as goal

pub returns : goal.returns
returns c = one_query
