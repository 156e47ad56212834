use Rattle.spool_state.proofs.Frees.{none_chosen}
use Rattle.format_laws.proofs.laws.none_is_chosen.Goals as goal

pub returns : goal.returns
returns c = none_chosen
