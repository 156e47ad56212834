use Rattle.hec_body.proofs.LineCuts.{one_line_cut}
use Rattle.hec_body.proofs.laws.one_line_cut.Goals as goal

pub returns : goal.returns
returns c = one_line_cut
