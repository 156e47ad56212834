use Rattle.conn_serve.proofs.Indexing.{calls_are_of_conn}
use Rattle.conn_serve.proofs.laws.calls_are_of_conn.Goals as goal

pub returns : goal.returns
returns c = calls_are_of_conn
