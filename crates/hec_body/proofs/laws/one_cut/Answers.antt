use Rattle.hec_body.proofs.Cuts.{one_cut}
use Rattle.hec_body.proofs.laws.one_cut.Goals as goal

pub returns : goal.returns
returns c = one_cut
