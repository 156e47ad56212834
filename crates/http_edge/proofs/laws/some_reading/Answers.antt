use Rattle.http_edge.proofs.SomeReadingLaws.{some_reading}
use Rattle.http_edge.proofs.laws.some_reading.Goals as goal

pub returns : goal.returns
returns c = some_reading
