use Rattle.http_reply.proofs.SomeReadingLaws as law
use Rattle.http_reply.proofs.laws.some_reading.Goals as goal

pub returns : goal.returns
returns c = law.some_reading
