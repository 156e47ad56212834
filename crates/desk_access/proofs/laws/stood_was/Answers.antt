use Rattle.desk_access.proofs.Lasting as lasting
use Rattle.desk_access.proofs.laws.stood_was.Goals as goal

pub returns : goal.returns
returns c = lasting.stood_was
