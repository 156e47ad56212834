use Rattle.lumber_session.proofs.ActLaws as laws
use Rattle.lumber_session.proofs.laws.some_cut.Goals as goal

pub returns : goal.returns
returns c = laws.some_cut
