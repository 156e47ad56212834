use Rattle.hec_session.proofs.ActLaws.{one_act}
use Rattle.hec_session.proofs.laws.one_act.Goals as goal

pub returns : goal.returns
returns c = one_act c.one_cut.ensures c.one_line_cut.ensures c.one_query.ensures
