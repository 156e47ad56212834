use Rattle.lumber_session.proofs.CutLaws as laws
use Rattle.lumber_session.proofs.laws.batch_sizes.Goals as goal

pub returns : goal.returns
returns c = laws.batch_sizes
