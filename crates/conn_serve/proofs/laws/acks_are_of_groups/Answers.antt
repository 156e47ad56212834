use Rattle.conn_serve.proofs.LumberAcks.{acks_are_of_groups}
use Rattle.conn_serve.proofs.laws.acks_are_of_groups.Goals as goal

pub returns : goal.returns
returns c = acks_are_of_groups
