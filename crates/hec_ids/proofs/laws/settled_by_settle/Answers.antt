use Rattle.hec_ids.proofs.CallLaws as laws
use Rattle.hec_ids.proofs.laws.settled_by_settle.Goals as goal

pub returns : goal.returns
returns c = laws.settled_by_settle
