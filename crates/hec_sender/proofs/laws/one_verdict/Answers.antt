use Rattle.hec_sender.proofs.Judging.{one_verdict}
use Rattle.hec_sender.proofs.laws.one_verdict.Goals as goal

pub returns : goal.returns
returns c = one_verdict
