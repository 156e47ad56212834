use Rattle.lumber_session.proofs.ActLaws as laws
use Rattle.lumber_session.proofs.laws.acts_make_batches.Goals as goal

pub returns : goal.returns
returns c = laws.acts_make_batches
