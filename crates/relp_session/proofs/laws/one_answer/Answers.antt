use Rattle.relp_session.proofs.Table as laws
use Rattle.relp_session.proofs.laws.one_answer.Goals as goal

pub returns : goal.returns
returns c = laws.one_answer
