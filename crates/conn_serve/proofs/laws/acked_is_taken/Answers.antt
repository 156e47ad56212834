use Rattle.conn_serve.proofs.Acknowledged.{acked_is_taken}
use Rattle.conn_serve.proofs.laws.acked_is_taken.Goals as goal

pub returns : goal.returns
returns c = acked_is_taken
