use Rattle.conn_serve.proofs.HecAcks.{said_lies_whole, acknowledged_is_taken, settled_is_stored, told_is_taken}
use Rattle.conn_serve.proofs.laws.replies_acknowledge_what_was_taken.Goals as goal

pub returns : goal.returns
returns c = record { whole = said_lies_whole; groups = acknowledged_is_taken; settled = settled_is_stored; told = told_is_taken }
