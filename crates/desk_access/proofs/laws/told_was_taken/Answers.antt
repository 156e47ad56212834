use Rattle.desk_access.proofs.Told as proofs
use Rattle.desk_access.proofs.laws.told_was_taken.Goals as goal

pub returns : goal.returns
returns c = proofs.told_was_taken
