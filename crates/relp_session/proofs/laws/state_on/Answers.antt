use Rattle.relp_session.proofs.States as laws
use Rattle.relp_session.proofs.laws.state_on.Goals as goal

pub returns : goal.returns
returns c = laws.state_on
