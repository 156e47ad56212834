use Rattle.conn_serve.proofs.RunsOfOne.{runs_of_one}
use Rattle.conn_serve.proofs.laws.runs_of_one.Goals as goal

pub returns : goal.returns
returns c = runs_of_one
