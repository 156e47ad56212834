use Rattle.forward_core.proofs.SendsLaw.{sends_left}
use Rattle.forward_core.proofs.laws.session_sends_what_is_left.Goals as goal

pub returns : goal.returns
returns c = sends_left
