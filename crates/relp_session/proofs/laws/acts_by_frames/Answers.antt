use Rattle.relp_session.proofs.Sessions as laws
use Rattle.relp_session.proofs.laws.acts_by_frames.Goals as goal

pub returns : goal.returns
returns c = laws.acts_by_frames
