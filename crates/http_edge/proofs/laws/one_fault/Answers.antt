use Rattle.http_edge.proofs.FaultOnceLaws.{one_fault}
use Rattle.http_edge.proofs.laws.one_fault.Goals as goal

pub returns : goal.returns
returns c = one_fault
