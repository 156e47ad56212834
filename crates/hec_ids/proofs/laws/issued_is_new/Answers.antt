use Rattle.hec_ids.proofs.CallLaws as laws
use Rattle.hec_ids.proofs.laws.issued_is_new.Goals as goal

pub returns : goal.returns
returns c = laws.issued_is_new
