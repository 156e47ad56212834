use Rattle.relp_session.proofs.States as laws
use Rattle.relp_session.proofs.laws.ends_when_closed.Goals as goal

pub returns : goal.returns
returns c = laws.ends_when_closed
