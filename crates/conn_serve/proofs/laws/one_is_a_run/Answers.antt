use Rattle.conn_serve.proofs.RunsOfOne.{one_is_a_run}
use Rattle.conn_serve.proofs.laws.one_is_a_run.Goals as goal

pub returns : goal.returns
returns c = one_is_a_run
