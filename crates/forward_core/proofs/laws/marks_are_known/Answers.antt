use Rattle.forward_core.proofs.KnownLaw.{known_after}
use Rattle.forward_core.proofs.laws.marks_are_known.Goals as goal

pub returns : goal.returns
returns c = known_after
