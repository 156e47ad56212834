use Rattle.proxy_head.proofs.ReadLaws as laws
use Rattle.proxy_head.proofs.laws.one_reading.Goals as goal

pub returns : goal.returns
returns c = laws.one_reading
