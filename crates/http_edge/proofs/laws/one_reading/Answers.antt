use Rattle.http_edge.proofs.ReadingLaws.{one_reading}
use Rattle.http_edge.proofs.laws.one_reading.Goals as goal

pub returns : goal.returns
returns c = one_reading
