use Rattle.hec_ids.proofs.CallLaws as laws
use Rattle.hec_ids.proofs.laws.gone_stays_gone.Goals as goal

pub returns : goal.returns
returns c = laws.gone_stays_gone
