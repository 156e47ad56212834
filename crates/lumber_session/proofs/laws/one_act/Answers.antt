use Rattle.lumber_session.proofs.ActLaws as laws
use Rattle.lumber_session.proofs.laws.one_act.Goals as goal

pub returns : goal.returns
returns c = laws.one_act
