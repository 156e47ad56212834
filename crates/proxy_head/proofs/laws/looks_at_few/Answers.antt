use Rattle.proxy_head.proofs.ReadLaws as laws
use Rattle.proxy_head.proofs.laws.looks_at_few.Goals as goal

pub returns : goal.returns
returns c = laws.looks_at_few
