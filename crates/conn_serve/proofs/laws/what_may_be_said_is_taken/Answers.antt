use Rattle.conn_serve.proofs.Sayable.{sayable_is_taken, sayable_group_is_taken, sayable_id_is_taken, sayable_is_settled, sayable_is_of_conn}
use Rattle.conn_serve.proofs.laws.what_may_be_said_is_taken.Goals as goal

pub returns : goal.returns
returns c = record { acked = sayable_is_taken; groups = sayable_group_is_taken; told = sayable_id_is_taken; settled = sayable_is_settled; own = sayable_is_of_conn }
