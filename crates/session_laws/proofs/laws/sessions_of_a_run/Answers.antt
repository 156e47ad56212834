use Rattle.session_laws.proofs.Serving.{sessions_of_run}
use Rattle.session_laws.proofs.laws.sessions_of_a_run.Goals as goal

pub returns : goal.returns
returns g c = sessions_of_run _ _ _ _
