use Rattle.http_edge.proofs.FaultOnceLaws.{fault_or_stream}
use Rattle.http_edge.proofs.laws.fault_or_stream.Goals as goal

pub returns : goal.returns
returns c = fault_or_stream
