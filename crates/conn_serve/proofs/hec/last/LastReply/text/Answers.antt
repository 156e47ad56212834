use Rattle.std.proofs.Common.{refl}
use Rattle.std.specs.Fmt.{digits}
use Rattle.conn_serve.proofs.hec.last.LastReply.text.Goals as goal

pub returns-in-Busy : goal.returns-in-Busy
unfolding digits
returns-in-Busy c = rw c.in-Busy.is refl

pub returns-in-Failed : goal.returns-in-Failed
unfolding digits
returns-in-Failed c = rw c.in-Failed.is refl

pub returns-in-Malformed : goal.returns-in-Malformed
unfolding digits
returns-in-Malformed c = rw c.in-Malformed.is refl
