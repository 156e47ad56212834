use Rattle.format_laws.proofs.Rules.{one_place}
use Rattle.format_laws.proofs.laws.place_is_one.Goals as goal

pub returns : goal.returns
returns c = one_place
