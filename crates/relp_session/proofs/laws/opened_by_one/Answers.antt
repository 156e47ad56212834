use Rattle.relp_session.proofs.States as laws
use Rattle.relp_session.proofs.laws.opened_by_one.Goals as goal

pub returns : goal.returns
returns c = laws.opened_by_one
