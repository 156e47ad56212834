use Rattle.relp_session.proofs.Sessions as laws
use Rattle.relp_session.proofs.laws.ends_at_close.Goals as goal

pub returns : goal.returns
returns c = laws.ends_at_close
