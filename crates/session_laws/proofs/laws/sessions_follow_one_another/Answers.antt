use Rattle.session_laws.proofs.Journal.{sessions_follow}
use Rattle.session_laws.proofs.laws.sessions_follow_one_another.Goals as goal

pub returns : goal.returns
returns g c = sessions_follow g.J.Naming.start
