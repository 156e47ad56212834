use Rattle.conn_serve.proofs.Failing.{disk_fault_is_told}
use Rattle.conn_serve.proofs.laws.disk_fault_is_told.Goals as goal

pub returns : goal.returns
returns c = disk_fault_is_told
