use Rattle.http_reply.proofs.OnceLaws as law
use Rattle.http_reply.proofs.laws.one_reading.Goals as goal

pub returns : goal.returns
returns c = law.one_reading
