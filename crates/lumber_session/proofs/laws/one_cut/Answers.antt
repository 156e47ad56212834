use Rattle.lumber_session.proofs.CutLaws as laws
use Rattle.lumber_session.proofs.laws.one_cut.Goals as goal

pub returns : goal.returns
returns c = laws.one_cut
