use Rattle.hec_ids.proofs.CallLaws as laws
use Rattle.hec_ids.proofs.laws.told_is_gone.Goals as goal

pub returns : goal.returns
returns c = laws.told_is_gone
