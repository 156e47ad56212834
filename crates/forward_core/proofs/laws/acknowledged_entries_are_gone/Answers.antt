use Rattle.forward_core.proofs.DropLaw.{told_is_gone}
use Rattle.forward_core.proofs.laws.acknowledged_entries_are_gone.Goals as goal

pub returns : goal.returns
returns c = told_is_gone
