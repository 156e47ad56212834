use Rattle.forward_core.proofs.AfterLaw.{leaves_rest}
use Rattle.forward_core.proofs.laws.session_leaves_the_rest.Goals as goal

pub returns : goal.returns
returns c = leaves_rest
