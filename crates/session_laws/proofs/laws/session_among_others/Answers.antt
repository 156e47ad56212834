use Rattle.session_laws.proofs.Among.{sends_among_others}
use Rattle.session_laws.proofs.laws.session_among_others.Goals as goal

pub returns : goal.returns
returns c = sends_among_others
