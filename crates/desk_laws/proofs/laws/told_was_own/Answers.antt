use Rattle.desk_access.proofs.Told.{told_was_own}
use Rattle.desk_laws.proofs.laws.told_was_own.Goals as goal

pub returns : goal.returns
returns c = told_was_own
