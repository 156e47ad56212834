use Rattle.proxy_head.proofs.ReadLaws as laws
use Rattle.proxy_head.proofs.laws.stays_read.Goals as goal

pub returns : goal.returns
returns c = laws.stays_read
