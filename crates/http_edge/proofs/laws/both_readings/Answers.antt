use Rattle.http_edge.proofs.FaultOnceLaws.{both_readings}
use Rattle.http_edge.proofs.laws.both_readings.Goals as goal

pub returns : goal.returns
returns c = both_readings
