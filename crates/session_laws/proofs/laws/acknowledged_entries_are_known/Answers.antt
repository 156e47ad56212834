use Rattle.session_laws.proofs.Dropping.{told_is_known}
use Rattle.session_laws.proofs.laws.acknowledged_entries_are_known.Goals as goal

pub returns : goal.returns
returns c = told_is_known
