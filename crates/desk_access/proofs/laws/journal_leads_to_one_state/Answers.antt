use Rattle.desk_access.proofs.OneState.{one_state}
use Rattle.desk_access.proofs.laws.journal_leads_to_one_state.Goals as goal

pub returns : goal.returns
returns c = one_state
