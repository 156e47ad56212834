use Rattle.forward_core.proofs.AfterLaw.{only_marked_known}
use Rattle.forward_core.proofs.laws.only_marked_is_known.Goals as goal

pub returns : goal.returns
returns c = only_marked_known
