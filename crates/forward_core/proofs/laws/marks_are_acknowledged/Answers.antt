use Rattle.forward_core.proofs.EarnedLaw.{acknowledges_left}
use Rattle.forward_core.proofs.laws.marks_are_acknowledged.Goals as goal

pub returns : goal.returns
returns c = acknowledges_left
